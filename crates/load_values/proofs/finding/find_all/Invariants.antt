-- The run up to the machine's position is looked at.
use Rattle.std.proofs.Common.{◌≡◌, ◌≤◌, ◌-◌}
use Rattle.seq_machine.specs.States.{state_of}
use Rattle.load_values.specs.Counted.{IsCounted}
use Rattle.load_values.proofs.finding.find_all.Given as goal

abbrev pub invariant-loop-machine : goal.invariant-loop-machine
invariant-loop-machine g l = record {
  counted : IsCounted g.M.Memory.at (state_of g.M.Memory.at l.fn.machine) l.machine.position l.machine l.loads;
  program : g.M.Memory.at l.program ≡ g.M.Memory.at l.fn.program;
  within : l.machine.position ≤ l.budget;
}

abbrev pub decreases-loop-machine : goal.decreases-loop-machine
decreases-loop-machine g l = l.budget - l.machine.position
