-- How far the rounds went, and whether the report was written.
use Rattle.engine.specs.Whole.{model_of, world_of}
use Rattle.adaptive_runs.specs.Adaptive.{model_at}
use Rattle.adaptive_driver.specs.Adapted.{plan_with}
use Rattle.speculative_runs.proofs.Reports.{unwritten_run, cut_run, completed_run}
use Rattle.std.proofs.Common.{ap, refl, ◌∙◌}
use Rattle.speculative_runs.specs.Driven.{stands}
use Rattle.adaptive_driver.proofs.driver.speculate_adapting.Goals as goal

pub returns-in-Err-write_report : goal.returns-in-Err-write_report
returns-in-Err-write_report g c =
    let models = model_at (plan_with g.M.Memory.at c.args.pair.now.engine c.args.adapter.now) in
    unwritten_run (world_of g.M.Memory.at c.args.pair.now.engine) models models c.args.run.now.budget
    (model_of g.M.Memory.at c.advance.new.pair.engine) c.args.name.now (record { told = g.S.Store.told c.args.store.now; before = g.S.Store.faults c.args.store.now; now = g.S.Store.faults c.write_report.new.store; failed = g.S.Store.failed c.write_report.new.store })
    (g.S.Store.told c.write_report.new.store)
    (record { told = g.O.Sink.told c.args.out.now; left = g.O.Sink.told c.advance.new.out; before = g.O.Sink.faults c.args.out.now; now = g.O.Sink.faults c.advance.new.out })
    c.in-Err-write_report.answer refl c.in-Ok.ensures.ok c.in-Err-write_report.ensures.err

pub returns-in-Err : goal.returns-in-Err
returns-in-Err g c =
    let models = model_at (plan_with g.M.Memory.at c.args.pair.now.engine c.args.adapter.now) in
    cut_run (world_of g.M.Memory.at c.args.pair.now.engine) models models c.args.run.now.budget c.args.name.now
    (record { told = g.S.Store.told c.args.store.now; before = g.S.Store.faults c.args.store.now; now = g.S.Store.faults c.args.store.now; failed = g.S.Store.failed c.args.store.now }) (g.S.Store.told c.args.store.now)
    (record { told = g.O.Sink.told c.args.out.now; left = g.O.Sink.told c.advance.new.out; before = g.O.Sink.faults c.args.out.now; now = g.O.Sink.faults c.advance.new.out })
    c.in-Err.answer refl c.in-Err.ensures.err refl

pub returns-in-Ok-write_report : goal.returns-in-Ok-write_report
returns-in-Ok-write_report g c =
    let models = model_at (plan_with g.M.Memory.at c.args.pair.now.engine c.args.adapter.now) in
    completed_run (world_of g.M.Memory.at c.args.pair.now.engine) models models c.args.run.now.budget
    (model_of g.M.Memory.at c.advance.new.pair.engine) c.args.name.now
    (record { told = g.S.Store.told c.args.store.now; before = g.S.Store.faults c.args.store.now; now = g.S.Store.faults c.write_report.new.store; failed = g.S.Store.failed c.write_report.new.store }) (g.S.Store.told c.write_report.new.store)
    (record { told = g.O.Sink.told c.args.out.now; left = g.O.Sink.told c.advance.new.out; before = g.O.Sink.faults c.args.out.now; now = g.O.Sink.faults c.advance.new.out })
    c.stand.result refl c.in-Ok.ensures.ok c.in-Ok-write_report.ensures.ok (c.stand.ensures ∙ ap stands c.committed.ensures.state ∙ (λ i. stands (model_of g.M.Memory.at (c.engine.ensures i)).committed))
