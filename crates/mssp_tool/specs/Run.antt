-- What `run` comes to, and why.
use Rattle.std.specs.Prelude.{◌≡◌, ℕ, ◌+◌, ◌<◌, ◌≤◌, ◌⊎◌, List, Option, Some, None}
use Rattle.outside.specs.Files.{Files}
use Rattle.command_line.specs.Command.{RunCommand}
use Rattle.cells.specs.declared.End.{End}
use Rattle.cells.specs.Run.{State, iterate}
use Rattle.rv_semantics.specs.Calls.{step}
use Rattle.speculation.specs.World.{World}
use Rattle.speculation.specs.Engine.{Model}
use Rattle.speculation_schedules.specs.Schedule.{after}
use Rattle.dist_image.specs.Image.{Distilled}
use Rattle.image_semantics.specs.World.{world}
use Rattle.elf_reader.specs.Accepted.{program_of}
use Rattle.elf_reader.specs.Executable.{Executable}
use Rattle.seq_machine.specs.Parts.{start_of}
use Rattle.answers.specs.declared.answer.Answer.{Answer}
use Rattle.answers.specs.declared.answer.Answer.TheVariants.{Memory, Ran, Budget}
use Rattle.speculative_runs.specs.Told.{Reads, Puts, Got, GotNothing}
use Rattle.adaptive_runs.specs.Adaptive.{model_at}
use Rattle.adaptive_driver.specs.Adapted.{plan_of}
use Rattle.mssp_tool.specs.Files.{IsProgramOf, NoProgram, of_program, IsNamedImage, NoNamedImage, of_named_image, IsInput, NoInput, of_input}
use Rattle.speculative_runs.specs.Driven.{Driven, state_after, stands}
use Rattle.speculative_runs.specs.Speculated.{schedule_of, events_of, Speculated}

-- what it comes to before its first step: the first file that is wanting or refused, or want of memory
abbrev pub Unready : Reads → RunCommand → Answer → Type 0
Unready store r a =
    NoProgram store r.program a
    ⊎ ((p : List ℕ) × IsProgramOf store.told r.program p × NoNamedImage store r.image a)
    ⊎ ((p : List ℕ) × (image : Distilled) × IsProgramOf store.told r.program p × IsNamedImage store.told r.image image × NoInput store r.input a)
    ⊎ (a ≡ Memory)

-- the bytes of the program, the image and the bytes of the input, as the store tells them
pub record AreRunFiles (told : Option Files) (r : RunCommand) (p : List ℕ) (image : Distilled) (i : List ℕ) : Type 0 where
  pub program : IsProgramOf told r.program p
  pub has_image : IsNamedImage told r.image image
  pub input : IsInput told r.input i

-- the start of the run of these files
abbrev pub start_from : List ℕ → List ℕ → State
start_from p i = start_of (program_of p) i

-- the world of a program's bytes, an input and an image
abbrev pub world_from : List ℕ → List ℕ → Distilled → ℕ → World
world_from p i image slaves = world (start_from p i) image slaves

-- the models of the machine of such a run, after each number of events: rounds where an image is named, and else serial steps alone. Where it adapts these
-- are rounds, beside an image that is made anew of the run so far
abbrev pub models_from : Option ℕ → RunCommand → Executable → State → Distilled → ℕ → Model
models_from None r program start image = after (world start image r.slaves) (events_of (schedule_of r.image) r.slaves)
models_from (Some every) r program start image = model_at (plan_of program start.env.input r.slaves every image)

-- a state is the start of the program's run, with the input that it holds
abbrev pub Begins : Executable → State → Type 0
Begins program s = s ≡ start_of program s.env.input

-- the files are read and accepted, and these are their program, the start of their run and their image
abbrev pub IsReady : Option Files → RunCommand → Executable → State → Distilled → Type 0
IsReady told r program s image = (p : List ℕ) × (i : List ℕ) × AreRunFiles told r p image i × (s ≡ start_from p i) × (program ≡ program_of p)

-- a report is asked for: there was no memory for a speculative machine, and nothing was put and no file has changed; or it runs from this state
abbrev pub Reported : Executable → State → Distilled → RunCommand → List ℕ → Reads → Option Files → Puts → Answer → Type 0
Reported program s image r name store left out a =
    ((a ≡ Memory) × GotNothing out × (left ≡ store.told))
    ⊎ Speculated (world s image r.slaves) (models_from r.adapt r program s image) r.budget name store left out a

-- what it comes to behind its files: its machine runs alone, and no file changes; or a report is asked for, and a speculative machine runs, which has these
-- models after each number of events
abbrev pub RunFrom : Option (List ℕ) → RunCommand → World → (ℕ → Model) → Reads → Option Files → Puts → Answer → Type 0
RunFrom None r w models store left out a = Driven w.start r.budget out a × (left ≡ store.told)
RunFrom (Some name) r w models store left out a = Speculated w models r.budget name store left out a

-- it came to this before its first step, and nothing was put and no file has changed; or its files are these, and their run came to this
abbrev pub RunCause : Reads → Option Files → RunCommand → Puts → Answer → Type 0
RunCause store left r out a =
    (Unready store r a × GotNothing out × (left ≡ store.told))
    ⊎ ((p : List ℕ) × (i : List ℕ) × (image : Distilled) × AreRunFiles store.told r p image i × RunFrom r.report r (world_from p i image r.slaves) (models_from r.adapt r (program_of p) (start_from p i) image) store left out a)

-- a run completed, and the answer tells where it stands
abbrev pub Completes : Answer → Type 0
Completes (Ran pc end) = Unit {0}
Completes Budget = Unit {0}
Completes _ = ⊥

-- Whatever the image, the answer tells where the sequential run of the files stands after its steps. Where it has ended by then exactly its output was put, and else
-- its output at a position that is past them by less than the longest task
pub record RunsAsAlone (told : Option Files) (r : RunCommand) (out : Puts) (a : Answer) : Type 0 where
  pub p : List ℕ
  pub i : List ℕ
  pub program : IsProgramOf told r.program p
  pub input : IsInput told r.input i
  pub stands_there : a ≡ stands (state_after r.budget (start_from p i))
  pub ended : (pc : ℕ) (end : End) → a ≡ Ran pc end → Got out (state_after r.budget (start_from p i)).env.output
  pub went_on : a ≡ Budget → (q : ℕ) × (r.budget ≤ q) × (q < r.budget + 16384) × Got out (iterate step (start_from p i) q).env.output

-- the answer that told files determine
abbrev pub run_answer : Files → RunCommand → Answer
run_answer files r =
    of_program files r.program (λ p. of_named_image files r.image (λ image. of_input files r.input (λ i. stands (state_after r.budget (start_from p i)))))
