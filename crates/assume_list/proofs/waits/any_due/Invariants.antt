-- None of those before is due.
use Rattle.std.proofs.Common.{◌≡◌, drop}
use Rattle.assumption_laws.specs.Waits.{is_overdue}
use Rattle.assume_list.specs.Shown.{shown_in}
use Rattle.assume_list.proofs.waits.any_due.Given as goal

abbrev pub invariant-loop-wait : goal.invariant-loop-wait
invariant-loop-wait l = is_overdue l.limit l.position (shown_in l.arrivals (drop l.wait-index l.list)) ≡ is_overdue l.limit l.position (shown_in l.arrivals l.list)
