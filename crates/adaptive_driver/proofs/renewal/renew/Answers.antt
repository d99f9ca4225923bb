-- The adapter's answer at the committed position.
use Rattle.std.proofs.Common.{◌∙◌, ap, refl}
use Rattle.speculation.specs.Engine.{Model}
use Rattle.engine.specs.Whole.{model_of, image_of, slaves_of}
use Rattle.adapt.specs.Made.{answer_at, after}
use Rattle.adaptive_driver.specs.Adapted.{stage_of}
use Rattle.adaptive_driver.proofs.Renewed.{renewed_so, asked_alike, asked_within, runs_there, position_is, asked_before, within_most, images, run_behind}
use Rattle.adaptive_driver.proofs.renewal.renew.Goals as goal

pub next-requires-clause-position : goal.next-requires-clause-position
next-requires-clause-position g c =
    within_most g.M.Memory.at c.args.pair.now.engine c.engine.result.now c.args.adapter.now c.engine.ensures c.requires.run c.committed.result.now.position c.committed.ensures.position c.requires.near

pub next-requires-clause-asked : goal.next-requires-clause-asked
next-requires-clause-asked g c =
    asked_before g.M.Memory.at c.args.pair.now.engine c.engine.result.now c.args.adapter.now c.engine.ensures c.requires.run c.committed.result.now.position c.committed.ensures.position

pub next-requires-clause-running : goal.next-requires-clause-running
next-requires-clause-running g c =
    runs_there g.M.Memory.at c.args.pair.now.engine c.engine.result.now c.args.adapter.now c.engine.ensures c.requires.run _ c.committed.result.now.position c.committed.ensures.state c.committed.ensures.sequential c.requires.running

pub exchange-requires-clause-image : goal.exchange-requires-clause-image
exchange-requires-clause-image g c = images c.args.adapter.now.program c.in_ok-image.image c.in_ok-image.ensures.made

pub returns-clause-stage : goal.returns-clause-stage
returns-clause-stage g c =
    let at = g.M.Memory.at in
    let e = c.args.pair.now.engine in
    let a = c.args.adapter.now in
    let b = c.next.new.self in
    let f = c.exchange.new.pair.engine in
    let here = position_is at e c.engine.result.now a c.engine.ensures c.requires.run c.committed.result.now.position c.committed.ensures.position in
    renewed_so a b (slaves_of e) (stage_of at e a) (stage_of at f b) c.in_ok-image.image refl (c.in_ok-image.ensures.image ∙ ap (answer_at a) here) (c.in_ok-image.ensures.next ∙ ap (after a) here)
    c.exchange.ensures.model c.exchange.ensures.image refl (image_of e)

pub returns-clause-run : goal.returns-clause-run
returns-clause-run g c =
    let at = g.M.Memory.at in
    let e = c.args.pair.now.engine in
    let a = c.args.adapter.now in
    let b = c.next.new.self in
    let f = c.exchange.new.pair.engine in
    let here = position_is at e c.engine.result.now a c.engine.ensures c.requires.run c.committed.result.now.position c.committed.ensures.position in
    let next = c.in_ok-image.ensures.next ∙ ap (after a) here in
    let same_position = ap (λ (m : Model). m.position) c.exchange.ensures.model in
    let within = asked_within a b (model_of at e).position next c.requires.run.asked in
    let alike = asked_alike a b (model_of at e).position next in
    run_behind at e f a b c.requires.run alike c.exchange.ensures.start same_position within

pub returns-clause-alike : goal.returns-clause-alike
returns-clause-alike g c =
    let a = c.args.adapter.now in
    asked_alike a c.next.new.self c.committed.result.now.position c.in_ok-image.ensures.next
