-- What a call that puts a text comes to, by what its sink tells and by the sink's count of faults.
use Rattle.std.specs.Prelude.{◌≡◌, ℕ, ◌≤◌, List, ◌++◌, take, Result, Err, Option, OnOk, OnErr}
use Rattle.outside.specs.Answers.{Gains, Rose}
use Rattle.outside.specs.declared.SinkErr.{SinkErr}
use Rattle.outside.specs.declared.SinkErr.TheVariants.{Failed}

-- all of the text was put; or a part of it, where the sink failed or there was no memory
pub record PutsText (told left : Option (List ℕ)) (before now : ℕ) (text : List ℕ) (result : Result Unit SinkErr) : Type 0 where
  pub never_falls : before ≤ now
  pub ok : OnOk result (Gains told left text)
  pub failed : result ≡ Err Failed → Rose before now
  pub part : OnErr result ((n : ℕ) × Gains told left (take n text))

-- a text that waits was put as far as it waits no more; or a part of it, where the sink failed or there was no memory
pub record PutsSome (told left : Option (List ℕ)) (before now : ℕ) (waited waits : List ℕ) (result : Result Unit SinkErr) : Type 0 where
  pub never_falls : before ≤ now
  pub ok : OnOk result ((put : List ℕ) × Gains told left put × (waited ≡ put ++ waits))
  pub failed : result ≡ Err Failed → Rose before now
  pub part : OnErr result ((n : ℕ) × Gains told left (take n waited))
