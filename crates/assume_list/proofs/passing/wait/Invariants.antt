-- What is known at a position.
use Rattle.std.proofs.Common.{◌≡◌, ◌≤◌, ◌-◌, max}
use Rattle.cells.specs.Run.{State}
use Rattle.seq_machine.specs.States.{state_of}
use Rattle.assume_list.specs.Places.{AreKnown}
use Rattle.assume_list.specs.Shown.{IsEarly, shown}
use Rattle.assume_list.specs.Passes.{IsReached, IsAwake}
use Rattle.assume_list.proofs.passing.wait.Given as goal

abbrev pub invariant-loop-alloc : goal.invariant-loop-alloc
invariant-loop-alloc g l =
    let at = g.M.Memory.at in
    record {
      reached : (start : State) → IsReached start l.image l.bound l.fn.machine.position (state_of at l.fn.machine) (shown l.fn.waits)
          → IsReached start l.image l.bound l.machine.position (state_of at l.machine) (shown l.waits);
      known : AreKnown l.pcs l.image;
      awake : (start : State) → IsReached start l.image l.bound l.fn.machine.position (state_of at l.fn.machine) (shown l.fn.waits)
          → IsAwake start l.image l.bound l.fn.machine.position l.machine.position;
      near : l.machine.position ≤ max l.fn.machine.position l.last;
      arrivals : l.waits.arrivals ≤ l.machine.position;
      early : IsEarly l.waits.due l.waits.limit (shown l.waits);
      limit : l.waits.limit ≡ l.fn.waits.limit;
    }

abbrev pub decreases-loop-alloc : goal.decreases-loop-alloc
decreases-loop-alloc g l = l.last - l.machine.position
