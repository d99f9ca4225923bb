-- That nothing is squashed with an image that fits, as far as the run meets its list.
use Rattle.std.specs.Prelude.{◌≡◌, ℕ, ◌⊎◌, List, Option, Some, None}
use Rattle.outside.specs.Files.{Files}
use Rattle.cells.specs.Run.{State, EndsWithin}
use Rattle.command_line.specs.Command.{RunCommand, ReplayCommand}
use Rattle.speculation.specs.declared.Event.{Event}
use Rattle.speculation.specs.Engine.{Model}
use Rattle.dist_image.specs.Image.{Distilled}
use Rattle.event_list.specs.Reading.{written_out}
use Rattle.fitting.specs.Fits.{Fits}
use Rattle.fitting.specs.Fails.{state_at, program, Meets}
use Rattle.report.specs.Events.{summary_text}
use Rattle.answers.specs.declared.answer.Answer.{Answer}
use Rattle.answers.specs.declared.answer.Answer.TheVariants.{Done}
use Rattle.speculative_runs.specs.Told.{Puts, GotNothing, Delivered, Written}
use Rattle.speculative_runs.specs.Replayed.{replay_bytes}
use Rattle.speculative_runs.specs.Unsquashed.{AreUnsquashed}
use Rattle.mssp_tool.specs.Run.{AreRunFiles, start_from, world_from}
use Rattle.mssp_tool.specs.Replay.{AreFiles}

-- ---- a replay

-- the files of a replay are these, its text was put, or the first of it where the sink failed or there was no memory, with a line for what each event did; and that was
-- unsquashed
pub record PutsUnsquashed (told : Option Files) (r : ReplayCommand) (out : Puts) (a : Answer) : Type 0 where
  pub p : List ℕ
  pub i : List ℕ
  pub image : Distilled
  pub list : List (ℕ × Event)
  pub files : AreFiles told r p image list i
  pub put : Delivered out (replay_bytes (world_from p i image r.slaves) (written_out list)) a
  pub unsquashed : AreUnsquashed (start_from p i) image (world_from p i image r.slaves) (written_out list)

-- so is all that a replay puts, whatever it comes to
abbrev pub ReplayIsUnsquashed : Option Files → ReplayCommand → Puts → Answer → Type 0
ReplayIsUnsquashed told r out a = ((a ≡ Done → ⊥) × GotNothing out) ⊎ PutsUnsquashed told r out a

-- ---- the report of a run

-- beside an image: it fits the program, and the run meets its list to the end. Where no image is named nothing is asked
abbrev pub IsMetToTheEnd : Option (List ℕ) → State → Distilled → Type 0
IsMetToTheEnd None start image = Unit {0}
IsMetToTheEnd (Some name) start image = Fits (program start) image × ((n : ℕ) × Meets start image n × EndsWithin (state_at start) n)

-- the files of a run are these, the report that was written sums up this model, and it counts no squash and no task that was given up, where the image stays
pub record ReportIsUnsquashed (told left : Option Files) (r : RunCommand) (name : List ℕ) : Type 0 where
  pub p : List ℕ
  pub i : List ℕ
  pub image : Distilled
  pub files : AreRunFiles told r p image i
  pub last : Model
  pub written : Written told left name (summary_text last)
  pub unsquashed : r.adapt ≡ None → IsMetToTheEnd r.image (start_from p i) image → (last.counts.squashed ≡ 0) × (last.counts.dropped ≡ 0)
