-- The engine as the model of the definitions, and the world that it runs in.
use Rattle.std.specs.Prelude.{◌≡◌, ℕ, ◌+◌, ◌||◌, Bool, true}
use Rattle.cells.specs.Run.{State, is_over}
use Rattle.speculation.specs.declared.Effect.{Effect}
use Rattle.speculation.specs.declared.Event.{Event}
use Rattle.speculation.specs.declared.Mode.TheVariants.{Serial, Speculating}
use Rattle.speculation.specs.World.{World, seq}
use Rattle.speculation.specs.Engine.{Model, happens}
use Rattle.speculation_laws.specs.Told.{Tells, waits, is_idle}
use Rattle.memory.specs.declared.Memory.{Ghosts}
use Rattle.dist_image.specs.Image.{Distilled}
use Rattle.image_semantics.specs.World.{world}
use Rattle.seq_machine.specs.States.{state_of}
use Rattle.engine.specs.declared.engine.Engine.{Engine}
use Rattle.engine.specs.Shown.{shown, modelled, MayTake}

-- the state that the machine had when the engine was made
abbrev pub start_of : {M : Type 0} {d : Ghosts M} → (M → ℕ → ℕ) → Engine M d → State
start_of at e = state_of at e.start

-- the image that an engine holds
abbrev pub image_of : {M : Type 0} {d : Ghosts M} → Engine M d → Distilled
image_of e = e.stage.image

-- how many slaves it has
abbrev pub slaves_of : {M : Type 0} {d : Ghosts M} → Engine M d → ℕ
slaves_of e = e.stage.slaves

-- its world: its start state, the image that it holds, and its slaves
abbrev pub world_of : {M : Type 0} {d : Ghosts M} → (M → ℕ → ℕ) → Engine M d → World
world_of at e = world (start_of at e) (image_of e) (slaves_of e)

-- its model
abbrev pub model_of : {M : Type 0} {d : Ghosts M} → (M → ℕ → ℕ) → Engine M d → Model
model_of at e = modelled (shown at e.stage) e.counts

-- ---- an event of an engine

-- the event takes the old engine to the new one with this effect: effect and model are those of the definition
abbrev pub IsEvent : {M : Type 0} {d : Ghosts M} → (M → ℕ → ℕ) → Event → Engine M d → Effect → Engine M d → Type 0
IsEvent at e old effect new = (effect, model_of at new) ≡ happens (world_of at old) (model_of at old) e

-- the event is one that may take memory
abbrev pub MayTakeOn : {M : Type 0} {d : Ghosts M} → (M → ℕ → ℕ) → Event → Engine M d → Type 0
MayTakeOn at e old = MayTake (happens (world_of at old) (model_of at old) e).0

-- what is committed is the sequential run at the committed position
abbrev pub IsSequential : {M : Type 0} {d : Ghosts M} → (M → ℕ → ℕ) → Engine M d → Type 0
IsSequential at e = (model_of at e).committed ≡ seq (world_of at e) (model_of at e).position

-- the committed steps are those of tasks and the serial ones
abbrev pub AreStepsCounted : Model → Type 0
AreStepsCounted m = m.position ≡ m.counts.by_tasks + m.counts.serial

-- what the effect tells of the event is so
abbrev pub IsTold : {M : Type 0} {d : Ghosts M} → (M → ℕ → ℕ) → Event → Engine M d → Effect → Engine M d → Type 0
IsTold at e old effect new = Tells (world_of at old) (model_of at old) e effect (model_of at new)

-- the effect is idle exactly where the machine has ended or the event finds nothing to do
abbrev pub IsRightlyIdle : {M : Type 0} {d : Ghosts M} → (M → ℕ → ℕ) → Event → Engine M d → Effect → Type 0
IsRightlyIdle at e old effect = is_idle effect ≡ (is_over (model_of at old).committed || waits (world_of at old) (model_of at old) e)

-- where speculation was given up a step is owed
abbrev pub OwesStep : Model → Model → Type 0
OwesStep old new = old.mode ≡ Speculating → (debt : Bool) → new.mode ≡ Serial debt → debt ≡ true
