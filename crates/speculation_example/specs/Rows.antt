-- Worked rows: events, and what they answer.
use Rattle.std.specs.Prelude.{◌≡◌, ℕ, cond, nat_eq, List, [], ◌∷◌, Some, None}
use Rattle.cells.specs.declared.Cell.TheVariants.{Pc, Reg}
use Rattle.cells.specs.declared.End.TheVariants.{Exit}
use Rattle.cells.specs.Run.{State}
use Rattle.speculation.specs.declared.Effect.{Effect}
use Rattle.speculation.specs.declared.Effect.TheVariants.{Moved, Forked, Stalled, Halted, Stepped, Done, Committed, Squashed, Ended, Started, Idle}
use Rattle.speculation.specs.declared.Ending.TheVariants.{Reached, Met, Full}
use Rattle.speculation.specs.declared.Event.{Event}
use Rattle.speculation.specs.declared.Event.TheVariants.{Master as MasterEvent, Slave, Commit, Serial as SerialEvent, Restart}
use Rattle.speculation.specs.declared.Mode.TheVariants.{Speculating}
use Rattle.speculation.specs.declared.Why.TheVariants.{Call, Spent}
use Rattle.speculation.specs.Engine.{Model, fresh, run, effects}
use Rattle.speculation_example.specs.Small.{small_world, small_start}

-- a start at this pc, with this in register 1
abbrev pub start_at : ℕ → ℕ → State
start_at pc one = record small_start { arch = record { pc = pc; regs = λ r. cond (nat_eq 1 r) one 0; mem = small_start.arch.mem } }

-- a list of events, and what is told of each
abbrev pub Row : ℕ → State → List Event → List Effect → Type 0
Row limit start es answers = effects (small_world limit start) es (fresh (small_world limit start)) ≡ answers

-- with no task and no master there is nothing to do
abbrev pub FindsNothing : Type 0
FindsNothing = Row 8 small_start (Commit ∷ Slave 0 ∷ MasterEvent ∷ []) (Idle ∷ Idle ∷ Idle ∷ [])

-- no serial step while speculating; slave 0 runs task 0 alone; with two slaves the master stalls at the third task
abbrev pub Forks : Type 0
Forks =
    Row 8 small_start
    (Restart ∷ SerialEvent ∷ Restart ∷ Slave 0 ∷ Slave 0 ∷ Slave 1 ∷ Slave 0 ∷ Slave 0 ∷ MasterEvent ∷ MasterEvent ∷ MasterEvent ∷ MasterEvent ∷ MasterEvent ∷ MasterEvent ∷ Slave 1 ∷ [])
    (Started 0 ∷ Idle ∷ Idle ∷ Stepped ∷ Stepped ∷ Idle ∷ Done Reached ∷ Idle ∷ Moved ∷ Moved ∷ Forked 1 ∷ Moved ∷ Moved ∷ Stalled ∷ Stepped ∷ [])

-- the third step comes to the anchor: with a limit of three it is Reached and not Full
abbrev pub ReachesFirst : Type 0
ReachesFirst = Row 3 small_start (Restart ∷ Slave 0 ∷ Slave 0 ∷ Slave 0 ∷ []) (Started 0 ∷ Stepped ∷ Stepped ∷ Done Reached ∷ [])

-- a task that comes to its limit
abbrev pub IsFull : Type 0
IsFull = Row 2 small_start (Restart ∷ Slave 0 ∷ Slave 0 ∷ []) (Started 0 ∷ Stepped ∷ Done Full ∷ [])

-- a task does no call, and takes no step where it meets one; the master halts there
abbrev pub MeetsCall : Type 0
MeetsCall =
    Row 8 (start_at 0 2) (Restart ∷ Slave 0 ∷ Slave 0 ∷ Slave 0 ∷ Slave 0 ∷ Slave 0 ∷ MasterEvent ∷ MasterEvent ∷ MasterEvent ∷ MasterEvent ∷ [])
    (Started 0 ∷ Stepped ∷ Stepped ∷ Stepped ∷ Done Met ∷ Idle ∷ Moved ∷ Moved ∷ Halted Call ∷ Idle ∷ [])

-- where byte 96 does not hold what the list says, the master goes back to 0, though the task goes on to the call
abbrev pub DoesKnown : Type 0
DoesKnown =
    Row 8 (record small_start { arch = record { pc = 0; regs = λ r. 0; mem = λ a. cond (nat_eq 96 a) 1 0 } })
    (Restart ∷ MasterEvent ∷ MasterEvent ∷ MasterEvent ∷ Slave 0 ∷ Slave 0 ∷ Slave 0 ∷ Slave 0 ∷ [])
    (Started 0 ∷ Moved ∷ Moved ∷ Forked 1 ∷ Stepped ∷ Stepped ∷ Stepped ∷ Done Met ∷ [])

-- a spawn gives the master its fuel back: with a limit of one it is eight slots, and the ninth is done
abbrev pub GivesFuel : Type 0
GivesFuel =
    effects (record (small_world 1 small_start) { slaves = 3 }) (Restart ∷ MasterEvent ∷ MasterEvent ∷ MasterEvent ∷ MasterEvent ∷ MasterEvent ∷ MasterEvent ∷ MasterEvent ∷ MasterEvent ∷ MasterEvent ∷ [])
    (fresh (small_world 1 small_start))
    ≡ (Started 0 ∷ Moved ∷ Moved ∷ Forked 1 ∷ Moved ∷ Moved ∷ Forked 2 ∷ Moved ∷ Moved ∷ Halted Call ∷ [])

-- the last slot that the fuel allows is done; where no task lives the halt leaves debt
abbrev pub SpendsAll : Type 0
SpendsAll =
    effects (small_world 8 small_start) (MasterEvent ∷ MasterEvent ∷ MasterEvent ∷ Restart ∷ SerialEvent ∷ [])
    (record (fresh (small_world 8 small_start)) { mode = Speculating; master = Some (record { slot = 1; arch = small_start.arch; left = 1; spent = 35 }) })
    ≡ (Moved ∷ Halted Spent ∷ Idle ∷ Idle ∷ Stepped ∷ [])

-- a machine that has ended is idle
abbrev pub Ends : Type 0
Ends = Row 8 (start_at 12 5) (SerialEvent ∷ SerialEvent ∷ Restart ∷ []) (Ended (Exit 5) ∷ Idle ∷ Idle ∷ [])

-- the younger task is done before the older one is committed, and agrees with the state that this commit gives: what a task
-- has recorded is compared at its own commit
abbrev pub ComparesLate : Type 0
ComparesLate =
    Row 8 small_start
    (Restart ∷ MasterEvent ∷ MasterEvent ∷ MasterEvent ∷ Slave 1 ∷ Slave 1 ∷ Slave 1 ∷ Slave 0 ∷ Slave 0 ∷ Slave 0 ∷ Commit ∷ Commit ∷ [])
    (Started 0 ∷ Moved ∷ Moved ∷ Forked 1 ∷ Stepped ∷ Stepped ∷ Done Reached ∷ Stepped ∷ Stepped ∷ Done Reached ∷ Committed 3 0 ∷ Committed 3 0 ∷ [])

-- task 4 began at a wrong pc with a wrong register 1, and is done
abbrev pub astray : Model
astray =
    record (fresh (small_world 8 small_start)) {
      mode = Speculating;
      tasks = record { number = 4; base = (start_at 4 9).arch; count = 1; steps = 2; ending = Some Reached } ∷ [];
      next = 5;
    }

-- the pc is told, the first of the two that differ; no restart in debt; numbers go on
abbrev pub Squashes : Type 0
Squashes =
    effects (small_world 8 small_start) (Commit ∷ Restart ∷ SerialEvent ∷ SerialEvent ∷ SerialEvent ∷ Restart ∷ MasterEvent ∷ MasterEvent ∷ MasterEvent ∷ []) astray
    ≡ (Squashed (record { cell = Pc; predicted = 4; found = 0 }) ∷ Idle ∷ Stepped ∷ Stepped ∷ Stepped ∷ Started 0 ∷ Moved ∷ Moved ∷ Forked 6 ∷ [])

-- what was counted: idle events are events, and serial steps are positions
abbrev pub CountsSquash : Type 0
CountsSquash =
    (run (small_world 8 small_start) (Commit ∷ Restart ∷ SerialEvent ∷ SerialEvent ∷ []) astray).counts
    ≡ record { events = 4; tasks = 0; by_tasks = 0; serial = 2; squashed = 1; dropped = 0 }

-- two tasks at the call: the older has met it
abbrev pub at_call : ℕ → Model
at_call one =
    record (fresh (small_world 8 (start_at 12 5))) {
      mode = Speculating;
      tasks =
          record { number = 0; base = (start_at 12 one).arch; count = 1; steps = 0; ending = Some Met }
          ∷ record { number = 1; base = small_start.arch; count = 1; steps = 0; ending = None }
          ∷ [];
      next = 2;
    }

-- the call is not committed with the task that met it, and the younger task is given up
abbrev pub GivesUp : Type 0
GivesUp =
    effects (small_world 8 (start_at 12 5)) (Commit ∷ Slave 1 ∷ Restart ∷ SerialEvent ∷ SerialEvent ∷ []) (at_call 5)
    ≡ (Committed 0 1 ∷ Idle ∷ Idle ∷ Ended (Exit 5) ∷ Idle ∷ [])

-- what a task has read to see that it stands at a call is recorded
abbrev pub LooksAtCall : Type 0
LooksAtCall =
    effects (small_world 8 (start_at 12 5)) (Commit ∷ SerialEvent ∷ []) (at_call 9)
    ≡ (Squashed (record { cell = Reg 1; predicted = 9; found = 5 }) ∷ Ended (Exit 5) ∷ [])
