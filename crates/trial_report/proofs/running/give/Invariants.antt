-- The events so far, before which the run had not ended.
use Rattle.std.proofs.Common.{◌≡◌, ℕ, ◌-◌, ◌<◌, ◌≤◌, false}
use Rattle.cells.specs.Run.{is_over}
use Rattle.speculation_schedules.specs.Schedule.{after}
use Rattle.event_list.specs.Draws.{Drawing, generator_after, drawn}
use Rattle.engine.specs.Whole.{model_of, world_of}
use Rattle.trial_report.proofs.running.give.Given as goal

abbrev pub invariant-loop-given : goal.invariant-loop-given
invariant-loop-given g l = record {
  world : world_of g.M.Memory.at l.engine ≡ world_of g.M.Memory.at l.fn.engine;
  model : model_of g.M.Memory.at l.engine ≡ after (world_of g.M.Memory.at l.fn.engine) (drawn l.number 4) l.given;
  draws : ◌≡◌ {A = Drawing} l.draws (record { generator = generator_after l.number l.given; slaves = 4 });
  few : l.given ≤ 50_000_000;
  first : (j : ℕ) → j < l.given → is_over (after (world_of g.M.Memory.at l.fn.engine) (drawn l.number 4) j).committed ≡ false;
}

abbrev pub decreases-loop-given : goal.decreases-loop-given
decreases-loop-given g l = 50_000_000 - l.given
