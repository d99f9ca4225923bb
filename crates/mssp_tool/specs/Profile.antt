-- What `profile` comes to, and why.
use Rattle.std.specs.Prelude.{◌≡◌, ℕ, ◌⊎◌, nat_lt, ◌||◌, Bool, if◌then◌else◌, List, length, Option}
use Rattle.outside.specs.Files.{Files}
use Rattle.command_line.specs.Command.{WalkCommand}
use Rattle.elf_reader.specs.Executable.{Executable}
use Rattle.profile_data.specs.Profile.{Tally, Profiled, target_count}
use Rattle.profile_data.specs.Bytes.{bytes_of}
use Rattle.profile_laws.specs.Profiles.{with_mark, steps, IsProfileOf, IsWide}
use Rattle.profile_laws.specs.Tally.{kept}
use Rattle.answers.specs.declared.answer.Refusal.TheVariants.{Wide}
use Rattle.answers.specs.declared.answer.Answer.{Answer}
use Rattle.answers.specs.declared.answer.Answer.TheVariants.{Memory, Refused, Done}
use Rattle.speculative_runs.specs.Told.{Reads}
use Rattle.mssp_tool.specs.Files.{IsProgramOf, HasProgram, NoProgram, of_program, IsInput, NoInput, of_input, Saved}
use Rattle.mssp_tool.specs.Run.{start_from}

-- it comes to no profile: the first file that is wanting or refused, or want of memory
abbrev pub Unprofiled : Reads → WalkCommand → Answer → Type 0
Unprofiled store w a =
    NoProgram store w.program a
    ⊎ ((p : List ℕ) × IsProgramOf store.told w.program p × NoInput store w.input a)
    ⊎ (a ≡ Memory)

-- the program is read and accepted, and the input is read
abbrev pub HasRun : Option Files → WalkCommand → Executable → List ℕ → Type 0
HasRun told w program i = HasProgram told w.program program × IsInput told w.input i

-- this is the profile of the run of a program and an input, over the steps of the budget or those to its end; with the mark, short writes are counted
abbrev pub IsProfileFrom : Bool → List ℕ → List ℕ → ℕ → Profiled → Type 0
IsProfileFrom calls p i budget f = IsProfileOf (with_mark calls) (start_from p i) (steps (start_from p i) budget) f

-- the profile is too wide, and no file has changed; or it isn't, and its bytes were written, or not
abbrev pub Profiles : Profiled → Reads → Option Files → List ℕ → Answer → Type 0
Profiles f store left name a = (IsWide f.rows × (a ≡ Refused Wide) × (left ≡ store.told)) ⊎ ((IsWide f.rows → ⊥) × Saved store left name (bytes_of f) a)

-- it came to no profile, and no file has changed; or its files are these, and their run has this profile
abbrev pub ProfileCause : Reads → Option Files → WalkCommand → Bool → Answer → Type 0
ProfileCause store left w calls a =
    (Unprofiled store w a × (left ≡ store.told))
    ⊎ ((p : List ℕ) × (i : List ℕ) × (f : Profiled) × IsProgramOf store.told w.program p × IsInput store.told w.input i × IsProfileFrom calls p i w.budget f
    × Profiles f store left w.other a)

-- whether rows are too wide
abbrev pub is_wide : List Tally → Bool
is_wide rows = nat_lt 524_288 (length rows) || nat_lt 1_048_576 (target_count rows)

-- the answer that told files determine
abbrev pub profile_answer : Files → WalkCommand → Bool → Answer
profile_answer files w calls =
    of_program files w.program (λ p. of_input files w.input (λ i. if is_wide (kept (with_mark calls) (start_from p i) (steps (start_from p i) w.budget)).rows then Refused Wide else Done))
