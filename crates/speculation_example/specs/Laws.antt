-- The laws of speculation for the small machine, with no premise left.
use Rattle.std.specs.Prelude.{◌≡◌, ℕ, ◌<◌, ◌≤◌, false, List}
use Rattle.cells.specs.Run.{is_over}
use Rattle.speculation.specs.declared.Event.{Event}
use Rattle.speculation.specs.World.{World, seq}
use Rattle.speculation.specs.Engine.{Model, happens, run, fresh}
use Rattle.speculation.specs.Rounds.{rounds}
use Rattle.squash_laws.specs.Tracks.{IsSafe}
use Rattle.speculation_example.specs.Small.{small_world, small_start}

-- the small world
abbrev pub small : World
small = small_world 8 small_start

-- its model after a list of events
abbrev pub model_after : List Event → Model
model_after es = run small es (fresh small)

-- its state is the run's
abbrev pub SmallIsSequential : Type 0
SmallIsSequential = (es : List Event) → (model_after es).committed ≡ seq small (model_after es).position

-- nothing of it is squashed
abbrev pub SmallIsSafe : Type 0
SmallIsSafe = (es : List Event) (e : Event) → IsSafe (happens small (model_after es) e).0

-- it comes further within 47 rounds
abbrev pub SmallGains : Type 0
SmallGains =
    (es : List Event) → is_over (model_after es).committed ≡ false
    → (k : ℕ) × (k ≤ 47) × ((model_after es).position < (rounds small k (model_after es)).position)
