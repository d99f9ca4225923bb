-- Those so far.
use Rattle.std.proofs.Common.{◌≡◌, ◌++◌}
use Rattle.profiler.proofs.rows.listed.Given as goal

abbrev pub invariant-loop-to : goal.invariant-loop-to
invariant-loop-to l = l.list.items ++ l.to-iterator ≡ l.targets.keys
