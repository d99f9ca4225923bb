-- The events so far, and those that are left.
use Rattle.std.proofs.Common.{drop}
use Rattle.engine.specs.Whole.{model_of, world_of}
use Rattle.event_list.specs.Reading.{written_out}
use Rattle.speculative_runs.proofs.Along.{Along}
use Rattle.speculative_runs.proofs.events.put_listed.Given as goal

abbrev pub invariant-loop-count : goal.invariant-loop-count
invariant-loop-count g l =
    Along (world_of g.M.Memory.at l.fn.pair.engine) (model_of g.M.Memory.at l.fn.pair.engine) (written_out l.list) (g.O.Sink.told l.fn.out) (g.O.Sink.faults l.fn.out)
    (world_of g.M.Memory.at l.pair.engine) (model_of g.M.Memory.at l.pair.engine) (written_out (drop l.count-index l.list)) (g.O.Sink.told l.out) (g.O.Sink.faults l.out)
