-- None of those behind waits.
use Rattle.std.proofs.Common.{◌≡◌, ◌≤◌, [], drop, length}
use Rattle.assume_list.specs.Shown.{shown_in}
use Rattle.assume_list.proofs.waits.some_wait.Given as goal

abbrev pub invariant-loop-left : goal.invariant-loop-left
invariant-loop-left l = record { within : l.left ≤ length l.list; none : shown_in l.arrivals (drop l.left l.list) ≡ [] }

abbrev pub decreases-loop-left : goal.decreases-loop-left
decreases-loop-left l = l.left
