-- That events squash nothing with an image that fits, as far as the run meets its list.
use Rattle.std.specs.Prelude.{◌≡◌, ℕ, List, take, slice_get, Some}
use Rattle.cells.specs.Run.{State}
use Rattle.speculation.specs.declared.Effect.{Effect}
use Rattle.speculation.specs.declared.Event.{Event}
use Rattle.speculation.specs.World.{World}
use Rattle.speculation.specs.Engine.{Model, run, effects, fresh}
use Rattle.squash_laws.specs.Tracks.{IsSafe}
use Rattle.dist_image.specs.Image.{Distilled}
use Rattle.fitting.specs.Fits.{Fits}
use Rattle.fitting.specs.Fails.{program, Meets, Reaches}

-- What an event did to this model: no task was squashed, and none was given up with a committed one. It is so where the image fits the program, the first n steps of the
-- run meet its list, and the position that was committed before the event is a task limit before n, or the run ends within n steps
abbrev pub IsUnsquashed : State → Distilled → Model → Effect → Type 0
IsUnsquashed start image m effect = Fits (program start) image → (n : ℕ) → Meets start image n → Reaches start image n m.position → IsSafe effect

-- of events that are given one after the other: what event k did to the model after the events before it
abbrev pub AreUnsquashed : State → Distilled → World → List Event → Type 0
AreUnsquashed start image w es = (k : ℕ) (effect : Effect) → slice_get (effects w es (fresh w)) k ≡ Some effect → IsUnsquashed start image (run w (take k es) (fresh w)) effect
