-- What `check` comes to, and why.
use Rattle.std.specs.Prelude.{◌≡◌, ℕ, ◌⊎◌, ◌==◌, ◌||◌, ◌&&◌, Bool, if◌then◌else◌, is_some, List, Option}
use Rattle.outside.specs.Files.{Files}
use Rattle.cells.specs.Run.{State}
use Rattle.command_line.specs.Command.{WalkCommand}
use Rattle.dist_image.specs.Image.{Distilled}
use Rattle.elf_reader.specs.Executable.{Executable}
use Rattle.elf_reader.specs.Accepted.{program_of}
use Rattle.profile_laws.specs.Profiles.{count_below, steps}
use Rattle.assumption_laws.specs.Looks.{first_from, first_failing, span_fails}
use Rattle.assume_list.specs.declared.verdict.Verdict.{Verdict}
use Rattle.assume_list.specs.declared.verdict.Verdict.TheVariants as verdict
use Rattle.assume_list.specs.Passes.{is_span}
use Rattle.assume_list.specs.Verdicts.{IsVerdict}
use Rattle.report.specs.Verdict.{verdict_line}
use Rattle.answers.specs.declared.answer.Answer.{Answer}
use Rattle.answers.specs.declared.answer.Answer.TheVariants.{Memory, Done, Broken}
use Rattle.speculative_runs.specs.Told.{Reads, Puts, GotNothing, Spoken}
use Rattle.mssp_tool.specs.Files.{IsProgramOf, NoProgram, of_program, HasImage, NoImage, of_image, IsInput, NoInput, of_input}
use Rattle.mssp_tool.specs.Run.{start_from}

-- it comes to no verdict: the first file that is wanting or refused, or want of memory
abbrev pub Unchecked : Reads → WalkCommand → Answer → Type 0
Unchecked store w a =
    NoProgram store w.program a
    ⊎ ((p : List ℕ) × IsProgramOf store.told w.program p × NoImage store w.other a)
    ⊎ ((p : List ℕ) × (image : Distilled) × IsProgramOf store.told w.program p × HasImage store.told w.other image × NoInput store w.input a)
    ⊎ (a ≡ Memory)

-- the bytes of the program, the image, and the bytes of the input, as the store tells them
pub record AreCheckFiles (told : Option Files) (w : WalkCommand) (p : List ℕ) (image : Distilled) (i : List ℕ) : Type 0 where
  pub program : IsProgramOf told w.program p
  pub has_image : HasImage told w.other image
  pub input : IsInput told w.input i

-- the files are read and accepted
abbrev pub HasCheckFiles : Option Files → WalkCommand → Executable → Distilled → List ℕ → Type 0
HasCheckFiles told w program image i = (p : List ℕ) × AreCheckFiles told w p image i × (program ≡ program_of p)

-- the answer that tells which of the two verdicts there is
abbrev pub verdict_answer : Verdict → Answer
verdict_answer (verdict.Met n) = Done
verdict_answer (verdict.Broken position which) = Broken

-- the line of a verdict was put, and the answer tells it; or a part of the line, where the sink failed or there was no memory
abbrev pub Judged : Distilled → Verdict → Puts → Answer → Type 0
Judged image v out a = Spoken out (verdict_line image v) (verdict_answer v) a

-- it came to no verdict, and nothing was put; or its files are these, and this is the verdict on their run
abbrev pub CheckCause : Reads → WalkCommand → Puts → Answer → Type 0
CheckCause store w out a =
    (Unchecked store w a × GotNothing out)
    ⊎ ((p : List ℕ) × (i : List ℕ) × (image : Distilled) × (v : Verdict) × AreCheckFiles store.told w p image i × IsVerdict (start_from p i) image w.budget v × Judged image v out a)

-- whether an assumption that an image lists fails at a position, by the tests there
abbrev pub fails_at : State → Distilled → ℕ → Bool
fails_at start image i = is_some (first_failing start image i) || (is_some (first_from is_span 0 image.assumptions) && span_fails start image i)

-- whether none fails at the first n positions
abbrev pub is_met : State → Distilled → ℕ → Bool
is_met start image n = count_below (fails_at start image) n == 0

-- the answer that told files determine
abbrev pub check_answer : Files → WalkCommand → Answer
check_answer files w =
    of_program files w.program (λ p. of_image files w.other (λ image. of_input files w.input (λ i.
    if is_met (start_from p i) image (steps (start_from p i) w.budget) then Done else Broken)))
