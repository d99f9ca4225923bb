-- What `replay` comes to, and why.
use Rattle.std.specs.Prelude.{◌≡◌, ℕ, ◌⊎◌, List, Option}
use Rattle.outside.specs.Files.{Files}
use Rattle.speculation.specs.declared.Event.{Event}
use Rattle.speculation.specs.World.{World}
use Rattle.dist_image.specs.Image.{Distilled, IsImage}
use Rattle.event_list.specs.Reading.{written_out}
use Rattle.command_line.specs.Command.{ReplayCommand}
use Rattle.answers.specs.declared.answer.Answer.{Answer}
use Rattle.answers.specs.declared.answer.Answer.TheVariants.{Memory, Done}
use Rattle.speculative_runs.specs.Told.{Reads, Puts, GotNothing, Delivered}
use Rattle.speculative_runs.specs.Replayed.{replay_bytes, IsOfTheRun}
use Rattle.mssp_tool.specs.Files.{IsProgramOf, NoProgram, of_program, HasImage, NoImage, of_image, HasEvents, NoEvents, of_events, IsInput, NoInput, of_input}
use Rattle.mssp_tool.specs.Run.{start_from, world_from}

-- what it comes to before its first event: the first file that is wanting or refused, or want of memory
abbrev pub Wanting : Reads → ReplayCommand → Answer → Type 0
Wanting store r a =
    NoProgram store r.program a
    ⊎ ((p : List ℕ) × IsProgramOf store.told r.program p × NoImage store r.image a)
    ⊎ ((p : List ℕ) × (image : Distilled) × IsProgramOf store.told r.program p × HasImage store.told r.image image × NoEvents store r.events a)
    ⊎ ((p : List ℕ) × (image : Distilled) × (list : List (ℕ × Event)) × IsProgramOf store.told r.program p × HasImage store.told r.image image × HasEvents store.told r.events list
    × NoInput store r.input a)
    ⊎ (a ≡ Memory)

-- the bytes of the program, the image, the list and the input, as the store tells them
pub record AreFiles (told : Option Files) (r : ReplayCommand) (p : List ℕ) (image : Distilled) (list : List (ℕ × Event)) (i : List ℕ) : Type 0 where
  pub program : IsProgramOf told r.program p
  pub has_image : HasImage told r.image image
  pub events : HasEvents told r.events list
  pub input : IsInput told r.input i

-- the files are read and accepted, and this is the world of their run, and their list
abbrev pub IsReady : Option Files → ReplayCommand → World → List (ℕ × Event) → Type 0
IsReady told r w list =
    (p : List ℕ) × (i : List ℕ) × (image : Distilled) × AreFiles told r p image list i × (w ≡ world_from p i image r.slaves) × IsImage image

-- it came to this before its first event, and nothing was put; or its files are these, and what their replay puts was put or a part of it
abbrev pub ReplayCause : Reads → ReplayCommand → Puts → Answer → Type 0
ReplayCause store r out a =
    (Wanting store r a × GotNothing out)
    ⊎ ((p : List ℕ) × (i : List ℕ) × (image : Distilled) × (list : List (ℕ × Event)) × AreFiles store.told r p image list i
    × Delivered out (replay_bytes (world_from p i image r.slaves) (written_out list)) a
    × IsOfTheRun (start_from p i) (world_from p i image r.slaves) (written_out list))

-- the answer that told files determine
abbrev pub replay_answer : Files → ReplayCommand → Answer
replay_answer files r =
    of_program files r.program (λ _. of_image files r.image (λ _. of_events files r.events (λ _. of_input files r.input (λ _. Done))))
