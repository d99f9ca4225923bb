-- The machine runs from where the engine begins.
use Rattle.std.proofs.Common.{ap, ◌∙◌}
use Rattle.command_line.specs.Command.{shown_run}
use Rattle.seq_machine.specs.States.{state_of}
use Rattle.engine.specs.Whole.{start_of, image_of, slaves_of}
use Rattle.mssp_tool.proofs.Reports.{engine_runs}
use Rattle.mssp_tool.proofs.run.run_steady.Goals as goal

pub returns-in-Ok : goal.returns-in-Ok
returns-in-Ok g c =
    let at = g.M.Memory.at in
    let e = c.new-pair.result.engine in
    let same = c.new-pair.ensures.engine in
    engine_runs (shown_run c.args.run.now) c.args.name.now c.args.ready.program (start_of g.M.Memory.at e) (state_of g.M.Memory.at c.args.ready.machine) (image_of e) c.args.ready.image (slaves_of e)
    (record { told = g.S.Store.told c.args.store.now; before = g.S.Store.faults c.args.store.now; now = g.S.Store.faults c.speculate.new.store; failed = g.S.Store.failed c.speculate.new.store }) (g.S.Store.told c.speculate.new.store)
    (record { told = g.O.Sink.told c.args.out.now; left = g.O.Sink.told c.speculate.new.out; before = g.O.Sink.faults c.args.out.now; now = g.O.Sink.faults c.speculate.new.out })
    c.speculate.result (ap (start_of at) same ∙ c.in-Ok.ensures.start) (ap image_of same ∙ c.in-Ok.ensures.image) (ap slaves_of same ∙ c.in-Ok.ensures.slaves) c.requires.steady c.speculate.ensures
