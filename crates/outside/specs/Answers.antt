-- What a store and a sink may answer, by what they tell, by their counts of faults and by the name of a store's last fault.
use Rattle.std.specs.Prelude.{◌≡◌, ◌≢◌, ℕ, ◌+◌, ◌-◌, ◌^◌, ◌<◌, ◌≤◌, min, ◌⊎◌, List, [], ◌++◌, length, take, Result, Err, Option, Some, None, option_map, IfOk, OnOk, IsOk, Vec}
use Rattle.std.specs.declared.alloc.Global.{Global}
use Rattle.std.specs.FinMap as finite
use Rattle.outside.specs.Files.{Files}
use Rattle.outside.specs.declared.StoreErr.{StoreErr}
use Rattle.outside.specs.declared.StoreErr.TheVariants.{Absent, TooLong, Failed, Memory}
use Rattle.outside.specs.declared.SinkErr.{SinkErr}
use Rattle.outside.specs.declared.SinkErr.TheVariants.{Failed as PutFailed, Memory as PutMemory}

-- one more, up to the greatest number of 64 bits
abbrev pub one_more : ℕ → ℕ
one_more n = min (n + 1) (2 ^ 64 - 1)

-- the count has risen, or stands where it can't rise
abbrev pub Rose : ℕ → ℕ → Type 0
Rose before now = one_more before ≤ now

-- the name of the call that failed last is this one; or none is kept, where there was no memory for it
abbrev pub IsNamed : Option (List ℕ) → List ℕ → Type 0
IsNamed last name = (last ≡ Some name) ⊎ (last ≡ None)

-- a call of this name failed: the count has risen, and the last failed call is of this name
abbrev pub FaultAt : ℕ → ℕ → Option (List ℕ) → List ℕ → Type 0
FaultAt before now last name = Rose before now × IsNamed last name

-- the store tells that it has no such file
abbrev pub Lacks : Option Files → List ℕ → Type 0
Lacks told name = (files : Files) × (told ≡ Some files) × (finite.get files name ≡ None)

-- the store tells a file that is longer than the limit
abbrev pub HasLonger : Option Files → List ℕ → ℕ → Type 0
HasLonger told name limit = (files : Files) × (bytes : List ℕ) × (told ≡ Some files) × (finite.get files name ≡ Some bytes) × (limit < length bytes)

-- where the store tells, this is the file that it tells
abbrev pub IsTold : Option Files → List ℕ → List ℕ → Type 0
IsTold told name bytes = (files : Files) → told ≡ Some files → finite.get files name ≡ Some bytes

-- an answer of `read`; `was` and `last` are the names of the last failed calls
pub record ReadAnswers (told : Option Files) (before now : ℕ) (was last : Option (List ℕ)) (name : List ℕ) (limit : ℕ) (result : Result (Vec ℕ Global) StoreErr) : Type 0 where
  pub never_falls : before ≤ now
  pub bounded : now < 2 ^ 64
  pub bytes : IfOk result (λ v. IsTold told name v.items)
  pub within : IfOk result (λ v. length v.items ≤ limit)
  pub absent : result ≡ Err Absent → Lacks told name ⊎ FaultAt before now last name
  pub too_long : result ≡ Err TooLong → HasLonger told name limit ⊎ FaultAt before now last name
  pub failed : result ≡ Err Failed → FaultAt before now last name
  pub named : (last ≡ was) ⊎ FaultAt before now last name
  pub ok : OnOk result (last ≡ was)
  pub memory : result ≡ Err Memory → (now ≡ before) × (last ≡ was)

-- the store tells as much as before, and the same of every name but this one
abbrev pub OthersStay : Option Files → Option Files → List ℕ → Type 0
OthersStay None left name = left ≡ None
OthersStay (Some files) left name = (new : Files) × (left ≡ Some new) × ((other : List ℕ) → other ≢ name → finite.get new other ≡ finite.get files other)

-- an answer of `write`
pub record WriteAnswers (told left : Option Files) (before now : ℕ) (was last : Option (List ℕ)) (name bytes : List ℕ) (result : Result Unit StoreErr) : Type 0 where
  pub never_falls : before ≤ now
  pub bounded : now < 2 ^ 64
  pub ok : OnOk result (left ≡ option_map (λ files. finite.insert files name bytes) told)
  pub failed : result ≡ Err Failed → FaultAt before now last name
  pub named : OnOk result (last ≡ was)
  pub others : result ≡ Err Failed → OthersStay told left name
  pub memory : result ≡ Err Memory → (left ≡ told) × (now ≡ before) × (last ≡ was)
  pub never_absent : result ≢ Err Absent
  pub never_too_long : result ≢ Err TooLong

-- the sink has what it had and these bytes behind it
abbrev pub Gains : Option (List ℕ) → Option (List ℕ) → List ℕ → Type 0
Gains told left bytes = left ≡ option_map (λ had. had ++ bytes) told

-- an answer of `put`
pub record PutAnswers (told left : Option (List ℕ)) (before now : ℕ) (bytes : List ℕ) (result : Result Unit SinkErr) : Type 0 where
  pub never_falls : before ≤ now
  pub bounded : now < 2 ^ 64
  pub ok : OnOk result (Gains told left bytes)
  pub failed : result ≡ Err PutFailed → Rose before now
  pub part : result ≡ Err PutFailed → (n : ℕ) × Gains told left (take n bytes)
  pub memory : result ≡ Err PutMemory → (left ≡ told) × (now ≡ before)
  pub nothing : bytes ≡ [] → IsOk result × (left ≡ told) × (now ≡ before)
