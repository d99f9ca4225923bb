-- The machine is at its position of the run.
use Rattle.std.proofs.Common.{◌≡◌, ◌≤◌, ◌-◌, []}
use Rattle.memory.specs.Plain.{held}
use Rattle.seq_machine.specs.Parts.{start_of}
use Rattle.seq_machine.specs.States.{state_of}
use Rattle.fitting.specs.Fails.{state_at}
use Rattle.adapt_tests.proofs.tests.goes_on.Given as goal

abbrev pub invariant-loop-machine : goal.invariant-loop-machine
invariant-loop-machine l = record {
  state : state_of held l.machine ≡ state_at (start_of l.p []) l.machine.position;
  within : l.machine.position ≤ l.steps;
}

abbrev pub decreases-loop-machine : goal.decreases-loop-machine
decreases-loop-machine l = l.steps - l.machine.position
