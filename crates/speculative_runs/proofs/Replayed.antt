-- What is committed behind the events of a list.
use Rattle.std.proofs.Common.{ℕ, ◌<◌, List}
use Rattle.cells.specs.Run.{State}
use Rattle.speculation.specs.declared.Event.{Event}
use Rattle.speculation.specs.Engine.{fresh}
use Rattle.speculation.proofs.Keeps.{fresh_holds, run_keeps}
use Rattle.dist_image.specs.Image.{Distilled, IsImage}
use Rattle.image_semantics.specs.World.{world}
use Rattle.image_semantics.proofs.Known.{known}
use Rattle.speculative_runs.specs.Replayed.{IsOfTheRun}

-- what is committed is the sequential run
pub of_the_run : (start : State) (image : Distilled) (slaves : ℕ) (es : List Event) → IsImage image → 0 < slaves → IsOfTheRun start (world start image slaves) es
of_the_run start image slaves es ok some = let w = world start image slaves in (run_keeps w (known start image slaves ok some) es (fresh w) (fresh_holds w)).is_seq
