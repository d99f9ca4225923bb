-- The recorder is of the program's run.
use Rattle.std.proofs.Common.{◌≡◌, ◌≤◌, ◌-◌, []}
use Rattle.adapt_tests.proofs.tests.recorded.Given as goal

abbrev pub invariant-loop-recorder : goal.invariant-loop-recorder
invariant-loop-recorder l = record {
  within : l.recorder.position ≤ l.steps;
}

abbrev pub decreases-loop-recorder : goal.decreases-loop-recorder
decreases-loop-recorder l = l.steps - l.recorder.position
