-- The stage so far, that the machine had not come far enough before, and that all of its output was put.
use Rattle.std.proofs.Common.{◌≡◌, ℕ, ◌≤◌, ◌<◌, ◌+◌, ◌-◌, ◌%◌, false, length}
use Rattle.outside.specs.Answers.{Gains}
use Rattle.speculation_schedules.specs.Schedule.{has_come}
use Rattle.engine.specs.Whole.{slaves_of}
use Rattle.adaptive_runs.specs.Adaptive.{adapted, model_at}
use Rattle.adaptive_driver.specs.Adapted.{plan_with, stage_of, AreOfOneRun, AreAlike}
use Rattle.adaptive_driver.proofs.Course.{bound}
use Rattle.adaptive_driver.proofs.driver.advance.Given as goal

abbrev pub invariant-loop-alloc : goal.invariant-loop-alloc
invariant-loop-alloc g l = record {
  stage : stage_of g.M.Memory.at l.pair.engine l.adapter ≡ adapted (plan_with g.M.Memory.at l.fn.pair.engine l.fn.adapter) l.given;
  run : AreOfOneRun g.M.Memory.at l.pair.engine l.adapter;
  alike : AreAlike l.adapter l.fn.adapter;
  slaves : slaves_of l.pair.engine ≡ slaves_of l.fn.pair.engine;
  not_yet : (i : ℕ) → i < l.given → has_come l.budget (model_at (plan_with g.M.Memory.at l.fn.pair.engine l.fn.adapter) i) ≡ false;
  place : l.given % (l.slaves + 7) ≡ l.place;
  within : l.place < l.slaves + 7;
  put : l.put ≡ length (model_at (plan_with g.M.Memory.at l.fn.pair.engine l.fn.adapter) l.given).committed.env.output;
  told : Gains (g.O.Sink.told l.fn.out) (g.O.Sink.told l.out) (model_at (plan_with g.M.Memory.at l.fn.pair.engine l.fn.adapter) l.given).committed.env.output;
  faults : g.O.Sink.faults l.fn.out ≤ g.O.Sink.faults l.out;
}

abbrev pub decreases-loop-alloc : goal.decreases-loop-alloc
decreases-loop-alloc g l = bound l.budget l.slaves - l.given
