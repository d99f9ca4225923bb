-- Of the first ones, those that wait were taken.
use Rattle.std.proofs.Common.{◌≡◌, ◌++◌, drop}
use Rattle.std.specs.Prelude.{nat_lt}
use Rattle.std.specs.List.{filter}
use Rattle.assume_list.proofs.waits.waiting.Given as goal

abbrev pub invariant-loop-wait : goal.invariant-loop-wait
invariant-loop-wait l = l.to.items ++ filter (λ w. nat_lt l.arrivals w.last) (drop l.wait-index l.list) ≡ filter (λ w. nat_lt l.arrivals w.last) l.list
