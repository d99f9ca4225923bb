-- Whether an image may take the place of the pair's before an event, and what the stage becomes then.
use Rattle.std.proofs.Common.{◌==◌, ◌∙◌, sym}
use Rattle.std.specs.Prelude.{not}
use Rattle.std.proofs.lemmas.Result.{on_ok_weaker}
use Rattle.cells.specs.Run.{is_over}
use Rattle.speculation_laws.specs.Told.{is_speculating}
use Rattle.engine.specs.Whole.{model_of}
use Rattle.adaptive_driver.specs.Adapted.{plan_with, stage_of}
use Rattle.adaptive_driver.proofs.Renewed.{serial_so, both, runs, ready_renewed, ready_still}
use Rattle.adaptive_driver.proofs.renewal.make_ready.Goals as goal

pub renew-requires-clause-serial : goal.renew-requires-clause-serial
renew-requires-clause-serial g c =
    let m = model_of g.M.Memory.at c.args.pair.now.engine in
    serial_so m.mode (both (c.args.place == 0) (not (is_speculating m.mode)) (not (is_over m.committed)) (sym c.may_exchange.ensures ∙ c.if-may_exchange.true)).0

pub renew-requires-clause-running : goal.renew-requires-clause-running
renew-requires-clause-running g c =
    let m = model_of g.M.Memory.at c.args.pair.now.engine in
    runs (is_over m.committed) (both (c.args.place == 0) (not (is_speculating m.mode)) (not (is_over m.committed)) (sym c.may_exchange.ensures ∙ c.if-may_exchange.true)).1

pub returns-then-may_exchange-clause-stage : goal.returns-then-may_exchange-clause-stage
returns-then-may_exchange-clause-stage g c =
    let at = g.M.Memory.at in
    let e = c.args.pair.now.engine in
    let a = c.args.adapter.now in
    let t = stage_of at c.renew.new.pair.engine c.renew.new.adapter in
    on_ok_weaker c.renew.result
    (λ renewed_now k at_place. ready_renewed (plan_with at e a) k c.args.place (stage_of at e a) t at_place (sym c.may_exchange.ensures ∙ c.if-may_exchange.true) renewed_now)
    c.renew.ensures.stage

pub returns-else-may_exchange-clause-stage : goal.returns-else-may_exchange-clause-stage
returns-else-may_exchange-clause-stage g c k at_place =
    let at = g.M.Memory.at in
    let e = c.args.pair.now.engine in
    let a = c.args.adapter.now in
    ready_still (plan_with at e a) k c.args.place (stage_of at e a) at_place (sym c.may_exchange.ensures ∙ c.if-may_exchange.false)
