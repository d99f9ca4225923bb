-- The state so far, and that all of its output was put.
use Rattle.std.proofs.Common.{◌≡◌, ◌≤◌, ◌-◌, length}
use Rattle.cells.specs.Run.{iterate}
use Rattle.rv_semantics.specs.Calls.{step}
use Rattle.outside.specs.Answers.{Gains}
use Rattle.seq_machine.specs.States.{state_of}
use Rattle.speculative_runs.proofs.driving.drive.Given as goal

abbrev pub invariant-loop-alloc : goal.invariant-loop-alloc
invariant-loop-alloc g l = record {
  state : state_of g.M.Memory.at l.machine ≡ iterate step (state_of g.M.Memory.at l.fn.machine) l.machine.position;
  within : l.machine.position ≤ l.budget;
  put : l.put ≡ length l.machine.out.items;
  told : Gains (g.O.Sink.told l.fn.out) (g.O.Sink.told l.out) l.machine.out.items;
  faults : g.O.Sink.faults l.fn.out ≤ g.O.Sink.faults l.out;
}

abbrev pub decreases-loop-alloc : goal.decreases-loop-alloc
decreases-loop-alloc g l = l.budget - l.machine.position
