-- What a store and a sink told before and after a call, their counts of faults, and the name of a store's last fault.
use Rattle.std.specs.Prelude.{◌≡◌, ℕ, List, take, Option, Some, None, option_map}
use Rattle.std.specs.FinMap as finite
use Rattle.outside.specs.Answers.{FaultAt, Gains, Rose, OthersStay}
use Rattle.outside.specs.Files.{Files}
use Rattle.answers.specs.declared.answer.Source.{Source}
use Rattle.answers.specs.declared.answer.Answer.{Answer}
use Rattle.answers.specs.declared.answer.Answer.TheVariants.{StoreFault, SinkFault, Memory, Done}

-- a store that is read in a call, and the name of the last of its calls that failed
pub record Reads : Type 0 where
  pub told : Option Files
  pub before : ℕ
  pub now : ℕ
  pub failed : Option (List ℕ)

-- a sink in a call
pub record Puts : Type 0 where
  pub told : Option (List ℕ)
  pub left : Option (List ℕ)
  pub before : ℕ
  pub now : ℕ

-- a call of the store failed
abbrev pub Fails : Reads → Type 0
Fails store = Rose store.before store.now

-- it failed, and last at a call of this name
abbrev pub FailsAt : Reads → List ℕ → Type 0
FailsAt store name = FaultAt store.before store.now store.failed name

-- a put failed
abbrev pub PutFails : Puts → Type 0
PutFails sink = Rose sink.before sink.now

-- the sink got nothing, these bytes, or a part of them
abbrev pub GotNothing : Puts → Type 0
GotNothing sink = sink.left ≡ sink.told

-- the sink got these bytes and no more
abbrev pub Got : Puts → List ℕ → Type 0
Got sink bytes = Gains sink.told sink.left bytes

-- the sink got a beginning of these bytes
abbrev pub GotPart : Puts → List ℕ → Type 0
GotPart sink bytes = (n : ℕ) × Got sink (take n bytes)

-- a text was put whole; or a part of it, where the sink failed or there was no memory
abbrev pub Delivered : Puts → List ℕ → Answer → Type 0
Delivered out text Done = Got out text
Delivered out text SinkFault = PutFails out × GotPart out text
Delivered out text Memory = GotPart out text
Delivered out text _ = ⊥

-- a line was put whole, and this is the answer; or a part of it, where the sink failed or there was no memory
abbrev pub Spoken : Puts → (line : List ℕ) → (end : Answer) → Answer → Type 0
Spoken out line end SinkFault = PutFails out × GotPart out line
Spoken out line end Memory = GotPart out line
Spoken out line end a = Got out line × (a ≡ end)

-- of a store that told its files and what it tells now: this file was written
abbrev pub Written : Option Files → Option Files → List ℕ → List ℕ → Type 0
Written told left name bytes = left ≡ option_map (λ files. finite.insert files name bytes) told

-- no file has changed but the one of this name, if there is a name
abbrev pub OnlyChanges : Option Files → Option Files → Option (List ℕ) → Type 0
OnlyChanges told left None = left ≡ told
OnlyChanges told left (Some name) = OthersStay told left name

-- it was not written: the store failed at it, and that name has anything or nothing; or there was no memory, and no file has changed
abbrev pub NotWritten : Source → Reads → Option Files → List ℕ → Answer → Type 0
NotWritten s store left name (StoreFault t) = (t ≡ s) × FailsAt store name × OthersStay store.told left name
NotWritten s store left name Memory = left ≡ store.told
NotWritten s store left name _ = ⊥
