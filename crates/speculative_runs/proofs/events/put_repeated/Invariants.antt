-- The events so far, and those that are left.
use Rattle.std.proofs.Common.{◌-◌, replicate}
use Rattle.engine.specs.Whole.{model_of, world_of}
use Rattle.speculative_runs.proofs.Along.{Along}
use Rattle.speculative_runs.proofs.events.put_repeated.Given as goal

abbrev pub invariant-loop-turn : goal.invariant-loop-turn
invariant-loop-turn g l =
    Along (world_of g.M.Memory.at l.fn.pair.engine) (model_of g.M.Memory.at l.fn.pair.engine) (replicate l.count l.e) (g.O.Sink.told l.fn.out) (g.O.Sink.faults l.fn.out)
    (world_of g.M.Memory.at l.pair.engine) (model_of g.M.Memory.at l.pair.engine) (replicate (l.count - l.turn) l.e) (g.O.Sink.told l.out) (g.O.Sink.faults l.out)
