-- Those after may be earlier.
use Rattle.std.proofs.Common.{◌≤◌, ℕ, drop}
use Rattle.assume_list.specs.Shown.{IsEarly, shown_in}
use Rattle.assume_list.proofs.waits.earliest.Given as goal

abbrev pub invariant-loop-wait : goal.invariant-loop-wait
invariant-loop-wait l =
    (due arrivals : ℕ) → due ≤ l.least → IsEarly due l.limit (shown_in arrivals (drop l.wait-index l.list)) → IsEarly due l.limit (shown_in arrivals l.list)
