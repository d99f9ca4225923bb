-- The events so far, that the machine had not come far enough before, and that all of its output was put.
use Rattle.std.proofs.Common.{◌≡◌, ℕ, ◌≤◌, ◌<◌, ◌+◌, ◌-◌, ◌%◌, false, length}
use Rattle.outside.specs.Answers.{Gains}
use Rattle.speculation_schedules.specs.Schedule.{after, has_come}
use Rattle.engine.specs.Whole.{model_of, world_of, slaves_of}
use Rattle.speculative_runs.specs.Speculated.{events_of, most}
use Rattle.speculative_runs.proofs.speculating.advance_by.Given as goal

abbrev pub invariant-loop-alloc : goal.invariant-loop-alloc
invariant-loop-alloc g l = record {
  world : world_of g.M.Memory.at l.pair.engine ≡ world_of g.M.Memory.at l.fn.pair.engine;
  model : model_of g.M.Memory.at l.pair.engine ≡ after (world_of g.M.Memory.at l.fn.pair.engine) (events_of l.schedule (slaves_of l.fn.pair.engine)) l.given;
  not_yet : (i : ℕ) → i < l.given → has_come l.budget (after (world_of g.M.Memory.at l.fn.pair.engine) (events_of l.schedule (slaves_of l.fn.pair.engine)) i) ≡ false;
  place : l.given % (l.slaves + 7) ≡ l.place;
  within : l.place < l.slaves + 7;
  put : l.put ≡ length (after (world_of g.M.Memory.at l.fn.pair.engine) (events_of l.schedule (slaves_of l.fn.pair.engine)) l.given).committed.env.output;
  told : Gains (g.O.Sink.told l.fn.out) (g.O.Sink.told l.out) (after (world_of g.M.Memory.at l.fn.pair.engine) (events_of l.schedule (slaves_of l.fn.pair.engine)) l.given).committed.env.output;
  faults : g.O.Sink.faults l.fn.out ≤ g.O.Sink.faults l.out;
}

abbrev pub decreases-loop-alloc : goal.decreases-loop-alloc
decreases-loop-alloc g l = most l.schedule (world_of g.M.Memory.at l.fn.pair.engine) l.budget - l.given
