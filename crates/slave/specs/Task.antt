-- What contracts see of a task, what an event does to it, and that it is a task of an image.
use Rattle.std.specs.Prelude.{◌≡◌, ℕ, ◌+◌, ◌-◌, ◌%◌, ◌++◌, Bool, cond, true, false, nat_eq, List, [], Option, Some, None, is_some}
use Rattle.std.specs.Int.{from_bool}
use Rattle.cells.specs.declared.Cell.{Cell}
use Rattle.cells.specs.declared.Cell.TheVariants.{Pc}
use Rattle.cells.specs.Cells.{value, from_cells}
use Rattle.cells.specs.Run.{State, is_over, printed, iterate}
use Rattle.cells.specs.Task.{said}
use Rattle.cells.specs.Seen.{Seen, task_seen, read_cells}
use Rattle.speculation.specs.declared.Ending.{Ending}
use Rattle.speculation.specs.declared.Ending.TheVariants.{Reached, Met, Full}
use Rattle.speculation.specs.World.{World, arrivals}
use Rattle.speculation.specs.Task.{Task, new_task, advance as next_task, now, looked, IsTask}
use Rattle.rv_semantics.specs.declared.Flow.{Flow}
use Rattle.rv_semantics.specs.declared.Flow.TheVariants.{Next}
use Rattle.rv_semantics.specs.Effect.{after}
use Rattle.rv_semantics.specs.Values.{arch_of, plain_value}
use Rattle.rv_semantics.specs.Prints.{is_short_write, arguments, task_output}
use Rattle.rv_semantics.specs.Calls.{step}
use Rattle.rv_step.specs.Outcome.{task_step, inst_at}
use Rattle.memory.specs.declared.Memory.{Ghosts}
use Rattle.dist_image.specs.declared.image.Anchor.{Anchor}
use Rattle.dist_image.specs.Image.{Distilled, IsImage, anchor_at, prints_at}
use Rattle.image_semantics.specs.World.{world}
use Rattle.layers.specs.Layered.{seen_of, output_of, begun, laid, after_write, written_bytes}
use Rattle.slave.specs.declared.did.SlaveDid.{SlaveDid}
use Rattle.slave.specs.declared.did.SlaveDid.TheVariants.{Stepped, Done}
use Rattle.slave.specs.declared.task.Task.{Task as CodeTask}

-- `count` anchors were to come to at the start, and `left` of them still are; `output` is what the task has printed
pub record Shown : Type 0 where
  pub number : ℕ
  pub seen : Seen
  pub output : List ℕ
  pub pc : ℕ
  pub count : ℕ
  pub left : ℕ
  pub steps : ℕ
  pub ending : Option Ending

-- `at` gives the bytes of the task's memory
abbrev pub shown : {M : Type 0} {d : Ghosts M} → (M → ℕ → ℕ) → CodeTask M d → Shown
shown at t = record { number = t.number; seen = seen_of at t.view; output = output_of t.view; pc = t.pc; count = t.count; left = t.left; steps = t.steps; ending = t.ending }

-- a task that has only begun, where the cells have these values
abbrev pub fresh : ℕ → ℕ → (Cell → ℕ) → Shown
fresh number count base = record { number = number; seen = begun base; output = []; pc = base Pc; count = count; left = count; steps = 0; ending = None }

-- a task that has only begun at this anchor, with these registers and this memory
abbrev pub fresh_at : ℕ → Anchor → List ℕ → (ℕ → ℕ) → Shown
fresh_at number anchor regs bytes = fresh number anchor.count (plain_value anchor.pc regs bytes)

-- what an event did, by the ending after it
abbrev pub did_of : Option Ending → SlaveDid
did_of None = Stepped
did_of (Some e) = Done e

-- where a step goes on, if it does
abbrev pub next_of : Flow → Option ℕ
next_of (Next to) = Some to
next_of _ = None

-- how a task ends by its counts, if it does: it is reached, or full
abbrev pub ending_after : ℕ → ℕ → ℕ → Option Ending
ending_after left steps limit = cond (nat_eq left 0) (Some Reached) (cond (nat_eq steps limit) (Some Full) None)

-- how many anchors are left once the pc is this one
abbrev pub left_at : Distilled → Shown → ℕ → ℕ
left_at image k pc = k.left - from_bool (is_some (anchor_at image pc))

-- after a step that went on at this pc; or, where no step was taken, done
abbrev pub went : Distilled → Shown → Option ℕ → Shown
went image k (Some to) = record k { pc = to; left = left_at image k to; steps = k.steps + 1; ending = ending_after (left_at image k to) (k.steps + 1) image.limit }
went image k None = record k { ending = Some Met }

-- the instruction at its pc was done on its view. A short write was, too, where a task may print
abbrev pub performed : (ℕ → Bool) → Shown → Shown
performed prints k = record k {
  seen = (task_step prints k.pc k.seen).seen;
  output = k.output ++ task_output prints (inst_at k.pc k.seen.value) k.pc k.seen.value;
}

-- the same where the image says at which pcs a task may print
abbrev pub performed_in : Distilled → Shown → Shown
performed_in image k = performed (prints_at image) k

-- where it goes on after that, if it does
abbrev pub goes_to : (ℕ → Bool) → Shown → Option ℕ
goes_to prints k = next_of (task_step prints k.pc k.seen).flow

-- after a call whose word was fetched: what it is asked for was read, and a short write was done
abbrev pub called : Bool → Shown → Shown
called false k = record k { seen = read_cells arguments k.seen }
called true k = record k { seen = after_write (read_cells arguments k.seen); output = k.output ++ written_bytes k.seen }

-- the same of the call that stands there, which is done if it is a short write
abbrev pub called_there : Shown → Shown
called_there k = called (is_short_write k.seen.value) k

-- the pc behind a call that a task does
abbrev pub goes_behind : Bool → ℕ → Option ℕ
goes_behind false pc = None
goes_behind true pc = Some (after pc)

-- where a task goes on behind the call at its pc, if that is a short write
abbrev pub goes_on_behind : Shown → Option ℕ
goes_on_behind k = goes_behind (is_short_write k.seen.value) k.pc

-- one event of a running task
unfoldable pub advanced : Distilled → Shown → Shown
advanced image k = went image (performed (prints_at image) k) (goes_to (prints_at image) k)

-- the task of the definition: its checkpoint is what the view began with
abbrev pub modelled : Shown → Task
modelled k = record { number = k.number; base = from_cells k.seen.base; count = k.count; steps = k.steps; ending = k.ending }

-- it is the definition's task that begins at this anchor
abbrev pub IsModelAt : ℕ → Anchor → List ℕ → (ℕ → ℕ) → Shown → Type 0
IsModelAt number anchor regs bytes k = modelled k ≡ new_task number (arch_of anchor.pc regs bytes) anchor.count

-- a task of a world: it shows what its steps from its checkpoint give
pub record Shows (w : World) (k : Shown) : Type 0 where
  pub seen : k.seen ≡ task_seen w.machine (from_cells k.seen.base) k.steps (looked k.ending k.steps)
  pub output : k.output ≡ said w.machine (from_cells k.seen.base) k.steps
  pub pc : k.pc ≡ (now w (modelled k)).pc
  pub left : k.left + arrivals w (from_cells k.seen.base) k.steps ≡ k.count
  pub aligned : k.pc % 4 ≡ 0
  pub task : IsTask w (modelled k)

-- a task of an image; where the run began and how many slaves there are play no part
abbrev pub IsTaskOf : Distilled → Shown → Type 0
IsTaskOf image k = (start : State) (slaves : ℕ) → Shows (world start image slaves) k

-- a task of any image
abbrev pub IsTaskOfAny : Shown → Type 0
IsTaskOfAny k = (image : Distilled) → IsImage image → IsTaskOf image k

-- what was a task of the image still is
abbrev pub StaysTaskOf : Distilled → Shown → Shown → Type 0
StaysTaskOf image old new = IsTaskOf image old → IsTaskOf image new

-- what was a task of the image has had the definition's event
abbrev pub HadEvent : Distilled → Shown → Shown → Type 0
HadEvent image old new =
    IsTaskOf image old → (start : State) (slaves : ℕ) → modelled new ≡ next_task (world start image slaves) (modelled old)

-- the state holds the recorded values
abbrev pub Agrees : Seen → State → Type 0
Agrees seen s = (x : Cell) (v : ℕ) → seen.recorded x ≡ Some v → value s.arch x ≡ v

-- A state that hasn't ended and agrees with the record gives, after as many steps of the run as the task has taken, itself
-- with the task's writes and pc, and with the task's output appended
abbrev pub FollowsRun : Shown → Type 0
FollowsRun k =
    (s : State) → is_over s ≡ false → Agrees k.seen s
    → iterate step s k.steps ≡ record { arch = from_cells (laid k.pc k.seen (value s.arch)); env = printed s.env k.output }

-- what was a task of the image now follows the run
abbrev pub GoesAlong : Distilled → Shown → Shown → Type 0
GoesAlong image old new = IsTaskOf image old → FollowsRun new
