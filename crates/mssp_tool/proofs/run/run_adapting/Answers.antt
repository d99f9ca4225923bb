-- The machine runs from where the engine begins, beside an adapter of the same run.
use Rattle.std.proofs.Common.{ℕ, ◌≤◌, ◌^◌, Option, unwrap_or, ap, sym, subst, ◌∙◌}
use Rattle.command_line.specs.Command.{shown_run}
use Rattle.seq_machine.specs.States.{state_of}
use Rattle.engine.specs.Whole.{start_of, image_of, slaves_of, world_of}
use Rattle.outside.specs.Files.{Files}
use Rattle.speculative_runs.specs.Told.{Reads, Puts}
use Rattle.speculative_runs.specs.Speculated.{Speculated}
use Rattle.adapt.specs.Made.{Adapting}
use Rattle.adapt.specs.Laws.{AreMade}
use Rattle.adaptive_runs.specs.Adaptive.{model_at}
use Rattle.adaptive_driver.specs.Adapted.{plan_with}
use Rattle.mssp_tool.proofs.Reports.{adapter_runs, of_one_run}
use Rattle.mssp_tool.proofs.run.run_adapting.Goals as goal

pub speculate_adapting-requires-clause-run : goal.speculate_adapting-requires-clause-run
speculate_adapting-requires-clause-run g c =
    let at = g.M.Memory.at in
    of_one_run at c.new-pair.result.engine c.in-Ok.adapter c.args.ready.program (state_of at c.args.ready.machine) c.args.every c.in-Ok.ensures
    (ap (start_of at) c.new-pair.ensures.engine ∙ c.in-Ok-new.ensures.start) c.requires.begins

pub speculate_adapting-requires-clause-due : goal.speculate_adapting-requires-clause-due
speculate_adapting-requires-clause-due g c = ap (λ (a : Adapting). a.due) c.in-Ok.ensures ∙ sym (ap (λ (a : Adapting). a.every) c.in-Ok.ensures)

pub speculate_adapting-requires-clause-made : goal.speculate_adapting-requires-clause-made
speculate_adapting-requires-clause-made g c = subst (λ (a : Adapting). AreMade a.program) (sym c.in-Ok.ensures) c.made_is_image.ensures

pub returns-in-Ok-new : goal.returns-in-Ok-new
returns-in-Ok-new g c =
    let at = g.M.Memory.at in
    let e = c.new-pair.result.engine in
    let same = c.new-pair.ensures.engine in
    let store : Reads = record { told = g.S.Store.told c.args.store.now; before = g.S.Store.faults c.args.store.now; now = g.S.Store.faults c.speculate_adapting.new.store; failed = g.S.Store.failed c.speculate_adapting.new.store } in
    let left : Option Files = g.S.Store.told c.speculate_adapting.new.store in
    let out : Puts = record { told = g.O.Sink.told c.args.out.now; left = g.O.Sink.told c.speculate_adapting.new.out; before = g.O.Sink.faults c.args.out.now; now = g.O.Sink.faults c.speculate_adapting.new.out } in
    let runs = subst (λ (a : Adapting). Speculated (world_of at e) (model_at (plan_with at e a)) c.args.run.now.budget c.args.name.now store left out c.speculate_adapting.result) c.in-Ok.ensures c.speculate_adapting.ensures in
    adapter_runs (shown_run c.args.run.now) c.args.name.now c.args.ready.program (start_of at e) (state_of at c.args.ready.machine) (image_of e) c.args.ready.image (slaves_of e) c.args.every
    store left out c.speculate_adapting.result (ap (start_of at) same ∙ c.in-Ok-new.ensures.start) (ap image_of same ∙ c.in-Ok-new.ensures.image) (ap slaves_of same ∙ c.in-Ok-new.ensures.slaves) c.requires.adapts runs

pub adapter_of-requires-clause-some : goal.adapter_of-requires-clause-some
adapter_of-requires-clause-some g c = subst (λ (o : Option ℕ). 1 ≤ unwrap_or o 1) c.requires.adapts c.args.run.now.rarely

pub adapter_of-requires-clause-most : goal.adapter_of-requires-clause-most
adapter_of-requires-clause-most g c = subst (λ (o : Option ℕ). unwrap_or o 1 ≤ 10 ^ 9) c.requires.adapts c.args.run.now.often
