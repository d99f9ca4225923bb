-- What contracts see of the engine's stage, and what an event does to it.
use Rattle.std.specs.Prelude.{◌≡◌, ℕ, ◌+◌, ◌-◌, ◌%◌, ◌^◌, ◌<◌, position, Bool, true, cond, nat_le, List, [], ◌∷◌, length, map, Option, Some, None}
use Rattle.std.specs.Option.{option_map}
use Rattle.cells.specs.Cells.{value}
use Rattle.cells.specs.Run.{State, is_over}
use Rattle.speculation.specs.declared.Counts.{Counts}
use Rattle.speculation.specs.declared.Effect.{Effect}
use Rattle.speculation.specs.declared.Effect.TheVariants.{Stalled, Squashed, Idle}
use Rattle.speculation.specs.declared.Ending.{Ending}
use Rattle.speculation.specs.declared.Ending.TheVariants.{Reached, Met, Full}
use Rattle.speculation.specs.declared.Event.{Event}
use Rattle.speculation.specs.declared.Mode.{Mode}
use Rattle.speculation.specs.declared.Mode.TheVariants.{Serial, Speculating}
use Rattle.speculation.specs.World.{Master}
use Rattle.speculation.specs.Task.{Task, is_run_by, steps_of}
use Rattle.speculation.specs.Kept.{Holds}
use Rattle.speculation.specs.Engine.{Model, going_on}
use Rattle.memory.specs.declared.Memory.{Ghosts}
use Rattle.dist_image.specs.declared.image.Anchor.{Anchor}
use Rattle.dist_image.specs.Image.{Distilled, IsImage}
use Rattle.image_semantics.specs.World.{world, begin_behind}
use Rattle.seq_machine.specs.declared.machine.Machine.{Machine}
use Rattle.seq_machine.specs.States.{state_of}
use Rattle.slave.specs.Task.{Shown as TaskShown, shown as task_shown, fresh, modelled as task_modelled, IsTaskOf}
use Rattle.slave.specs.declared.task.Task.{Task as CodeTask}
use Rattle.master.specs.Shown.{shown as master_shown, next_spawn}
use Rattle.engine.specs.declared.stage.Stage.{Stage}

-- the model, but for the counts; the tasks are as their own contracts show them
pub record Shown : Type 0 where
  pub committed : State
  pub position : ℕ
  pub mode : Mode
  pub master : Option Master
  pub tasks : List TaskShown
  pub next : ℕ

-- `at` gives the bytes of a memory
abbrev pub tasks_shown : {M : Type 0} {d : Ghosts M} → (M → ℕ → ℕ) → List (CodeTask M d) → List TaskShown
tasks_shown at ts = map (task_shown at) ts

-- what contracts see of the engine's stage
abbrev pub shown : {M : Type 0} {d : Ghosts M} → (M → ℕ → ℕ) → Stage M d → Shown
shown at s = record {
  committed = state_of at s.machine;
  position = s.machine.position;
  mode = s.mode;
  master = option_map (master_shown at) s.master;
  tasks = tasks_shown at s.tasks.items;
  next = s.next;
}

-- the tasks of the model
abbrev pub tasks_modelled : List TaskShown → List Task
tasks_modelled ks = map task_modelled ks

-- the model of what is seen, with these counts
abbrev pub modelled : Shown → Counts → Model
modelled s c = record {
  committed = s.committed;
  position = s.position;
  mode = s.mode;
  master = s.master;
  tasks = tasks_modelled s.tasks;
  next = s.next;
  counts = c;
}

-- each task is one of this image
abbrev pub AreTasksOf : Distilled → List TaskShown → Type 0
AreTasksOf image [] = Unit {0}
AreTasksOf image (k ∷ ks) = IsTaskOf image k × AreTasksOf image ks

-- each task is one of any image
abbrev pub AreTasksOfAny : List TaskShown → Type 0
AreTasksOfAny ks = (image : Distilled) → IsImage image → AreTasksOf image ks

-- the master and all tasks given up
abbrev pub given_up : Shown → Shown
given_up s = record s { mode = Serial true; master = None; tasks = [] }

-- serial with debt where no master runs and no task lives
abbrev pub rested : Shown → Option Master → List TaskShown → Shown
rested s None [] = record s { mode = Serial true }
rested s None (k ∷ ks) = s
rested s (Some a) ks = s

-- the stage as an idle event leaves it
abbrev pub at_rest : Shown → Shown
at_rest s = rested s s.master s.tasks

-- the master and the first task begin at an anchor where the machine stands
abbrev pub begun : Anchor → Shown → Shown
begun anchor s = record s {
  mode = Speculating;
  master = Some (begin_behind s.committed.arch (Some anchor));
  tasks = fresh s.next anchor.count (value s.committed.arch) ∷ [];
  next = s.next + 1;
}

-- the anchor where the master's next event begins a task, if it would
abbrev pub due_at : Distilled → Option Master → Option ℕ
due_at image None = None
due_at image (Some a) = next_spawn image a

-- the effect, and what stands afterwards, are those of the definition, wherever the run began and whatever was counted
abbrev pub Does : Distilled → ℕ → Event → Shown → Effect → Shown → Type 0
Does image slaves e old effect new = (start : State) (c : Counts) → (effect, modelled new c) ≡ going_on (world start image slaves) (modelled old c) e

-- an effect of an event that may take memory
abbrev pub MayTake : Effect → Type 0
MayTake Idle = ⊥
MayTake Stalled = ⊥
MayTake (Squashed d) = ⊥
MayTake _ = Unit {0}

-- the same for every event, of a machine that may have ended
abbrev pub Happens : Distilled → ℕ → Event → Shown → Effect → Shown → Type 0
Happens image slaves e old effect new = (start : State) (c : Counts) →
    (effect, modelled new c) ≡ cond (is_over old.committed) (Idle, modelled old c) (going_on (world start image slaves) (modelled old c) e)

-- the event is none of those that take no memory
abbrev pub IsCostly : Distilled → ℕ → Event → Shown → Type 0
IsCostly image slaves e s = (start : State) (c : Counts) → MayTake (going_on (world start image slaves) (modelled s c) e).0

-- ---- the same of a stage in the code

-- the event takes the old stage to the new one with this effect, as the definition's does
abbrev pub DoesOn : {M : Type 0} {d : Ghosts M} → (M → ℕ → ℕ) → Event → Stage M d → Effect → Stage M d → Type 0
DoesOn at e old effect new = Does old.image old.slaves e (shown at old) effect (shown at new)

-- the same for a machine that may have ended
abbrev pub HappensOn : {M : Type 0} {d : Ghosts M} → (M → ℕ → ℕ) → Event → Stage M d → Effect → Stage M d → Type 0
HappensOn at e old effect new = Happens old.image old.slaves e (shown at old) effect (shown at new)

-- the event is none of those that take no memory on this stage
abbrev pub IsCostlyOn : {M : Type 0} {d : Ghosts M} → (M → ℕ → ℕ) → Event → Stage M d → Type 0
IsCostlyOn at e s = IsCostly s.image s.slaves e (shown at s)

-- no task lives while the machine is serial
abbrev pub IsEmptyInSerial : {M : Type 0} {d : Ghosts M} → Stage M d → Type 0
IsEmptyInSerial s = (debt : Bool) → s.mode ≡ Serial debt → length s.tasks.items ≡ 0

-- the position has room for the steps of all live tasks
abbrev pub HasRoomForSteps : {M : Type 0} {d : Ghosts M} → (M → ℕ → ℕ) → Stage M d → Type 0
HasRoomForSteps at s = s.machine.position + steps_of (tasks_modelled (shown at s).tasks) < 2 ^ 64 - 1

-- what every event keeps is so of the stage and the counts, where the machine began as `start`
abbrev pub Keeps : {M : Type 0} {d : Ghosts M} → (M → ℕ → ℕ) → Machine M d → Stage M d → Counts → Type 0
Keeps at start s c = Holds (world (state_of at start) s.image s.slaves) (modelled (shown at s) c)

-- nothing is speculated on
abbrev pub IsSerial : Mode → Type 0
IsSerial (Serial debt) = Unit {0}
IsSerial Speculating = ⊥

-- a slave runs the task whose number is its own modulo the number of slaves
abbrev pub is_shown_run_by : (slaves slave : ℕ) → TaskShown → Bool
is_shown_run_by slaves slave k = is_run_by slaves slave (task_modelled k)

-- the place of the first task that runs on this slave, if one does
abbrev pub runner_on : {M : Type 0} {d : Ghosts M} → (M → ℕ → ℕ) → Stage M d → ℕ → Option ℕ
runner_on at s slave = position (λ t. is_shown_run_by s.slaves slave (task_shown at t)) s.tasks.items

-- on s slaves, how far behind the oldest task, whose number is f, the task of slave j stands
abbrev pub place_of : ℕ → ℕ → ℕ → ℕ
place_of s f j = cond (nat_le (f % s) j) (j - f % s) (j + s - f % s)

-- the tasks behind the oldest one
abbrev pub younger : List TaskShown → List TaskShown
younger [] = []
younger (k ∷ ks) = ks

-- the oldest task has left
abbrev pub retired : Ending → Shown → Shown
retired Reached s = at_rest (record s { tasks = younger s.tasks })
retired Met s = given_up s
retired Full s = given_up s

-- how many are given up with it
abbrev pub dropped_of : Ending → List TaskShown → ℕ
dropped_of Reached ks = 0
dropped_of Met ks = length (younger ks)
dropped_of Full ks = length (younger ks)
