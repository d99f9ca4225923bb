-- What `values` comes to, and why.
use Rattle.std.specs.Prelude.{◌≡◌, ℕ, ◌⊎◌, nat_lt, Bool, if◌then◌else◌, List, length, Option}
use Rattle.outside.specs.Files.{Files}
use Rattle.command_line.specs.Command.{WalkCommand}
use Rattle.profile_laws.specs.Profiles.{steps}
use Rattle.load_values.specs.Found.{loading, IsListed, IsWide}
use Rattle.load_values.specs.Bytes.{bytes_of}
use Rattle.answers.specs.declared.answer.Refusal.TheVariants.{WideLoads}
use Rattle.answers.specs.declared.answer.Answer.{Answer}
use Rattle.answers.specs.declared.answer.Answer.TheVariants.{Refused, Done}
use Rattle.speculative_runs.specs.Told.{Reads}
use Rattle.mssp_tool.specs.Files.{IsProgramOf, of_program, IsInput, of_input, Saved}
use Rattle.mssp_tool.specs.Run.{start_from}
use Rattle.mssp_tool.specs.Profile.{Unprofiled}

-- loads are executed at too many addresses, over the steps of the budget or those to the end of the run
abbrev pub LoadsTooMany : List ℕ → List ℕ → ℕ → Type 0
LoadsTooMany p i budget = IsWide (start_from p i) (steps (start_from p i) budget)

-- these are the loads of one value with their values, over the same steps
abbrev pub AreValuesFrom : List ℕ → List ℕ → ℕ → List (ℕ × ℕ) → Type 0
AreValuesFrom p i budget rows = IsListed (start_from p i) (steps (start_from p i) budget) rows

-- there are too many loads, and no file has changed; or there aren't, and the values' bytes were written, or not
abbrev pub Finds : List ℕ → List ℕ → WalkCommand → Reads → Option Files → Answer → Type 0
Finds p i w store left a =
    (LoadsTooMany p i w.budget × (a ≡ Refused WideLoads) × (left ≡ store.told))
    ⊎ ((rows : List (ℕ × ℕ)) × (LoadsTooMany p i w.budget → ⊥) × AreValuesFrom p i w.budget rows × Saved store left w.other (bytes_of rows) a)

-- there is no run, and no file has changed; or its files are these, and what is found of their run is this
abbrev pub ValuesCause : Reads → Option Files → WalkCommand → Answer → Type 0
ValuesCause store left w a =
    (Unprofiled store w a × (left ≡ store.told))
    ⊎ ((p : List ℕ) × (i : List ℕ) × IsProgramOf store.told w.program p × IsInput store.told w.input i × Finds p i w store left a)

-- whether there are too many loads
abbrev pub loads_too_many : List ℕ → List ℕ → ℕ → Bool
loads_too_many p i budget = nat_lt 524_288 (length (loading (start_from p i) (steps (start_from p i) budget)))

-- the answer that told files determine
abbrev pub values_answer : Files → WalkCommand → Answer
values_answer files w =
    of_program files w.program (λ p. of_input files w.input (λ i. if loads_too_many p i w.budget then Refused WideLoads else Done))
