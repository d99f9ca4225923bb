use Rattle.std.proofs.Common.{◌≡◌, ◌≤◌, ◌-◌}
use Rattle.profiler.specs.Counted.{began, IsRecorded}
use Rattle.profiler.proofs.profiling.count_all.Given as goal

abbrev pub invariant-loop-recording : goal.invariant-loop-recording
invariant-loop-recording g l = record {
  recorded : IsRecorded g.M.Memory.at l.recording;
  start : began g.M.Memory.at l.recording ≡ began g.M.Memory.at l.fn.recording;
  calls : l.recording.calls ≡ l.fn.recording.calls;
  within : l.recording.machine.position ≤ l.budget;
}

abbrev pub decreases-loop-recording : goal.decreases-loop-recording
decreases-loop-recording g l = l.budget - l.recording.machine.position
