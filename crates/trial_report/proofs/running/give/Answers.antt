-- One event after the other.
use Rattle.std.proofs.Common.{not, refl, sym, ap, ◌∙◌, arith}
use Rattle.cells.specs.Run.{is_over}
use Rattle.speculation.specs.Engine.{Model}
use Rattle.event_list.specs.Draws.{drawn}
use Rattle.engine.specs.Whole.{model_of, world_of}
use Rattle.trial_report.proofs.Events.{same_world, counted_after, fresh_after, next_after, goes_on, first_draw, next_draw, drawn_so, still_on}
use Rattle.trial_report.proofs.running.give.Goals as goal

pub loop-given-init : goal.loop-given-init
loop-given-init g c =
    record {
      world = refl;
      model = c.requires ∙ fresh_after (world_of g.M.Memory.at c.args.engine.now) (drawn c.args.number 4);
      draws = first_draw c.args.number _ c.seeded-draws.ensures;
      few = omega arith;
      first = λ j l. absurd (omega (arith, l));
    }

pub event-requires : goal.event-requires
event-requires g c =
    let i = c.loop-given.invariant in
    let counted = ap (λ (m : Model). m.counts.events) i.model ∙ counted_after (world_of g.M.Memory.at c.args.engine.now) (drawn c.args.number 4) c.loop-given.given in
    let few = i.few in
    omega (arith, counted, few)

pub loop-given-preserved : goal.loop-given-preserved
loop-given-preserved g c =
    let at = g.M.Memory.at in
    let i = c.loop-given.invariant in
    let w = world_of at c.args.engine.now in
    let event = drawn c.args.number 4 in
    let k = c.loop-given.given in
    let e = drawn_so c.args.number k _ c.next_event.result i.draws c.next_event.ensures.event in
    let going = ap (λ (m : Model). is_over m.committed) (sym i.model) ∙ ap is_over (sym c.committed.ensures.state) ∙ still_on _ (c.is_none.ensures ∙ ap not c.if-is_none.true) in
    record {
      world = same_world _ _ _ _ _ _ c.in_ok-event.ensures.start c.in_ok-event.ensures.image c.in_ok-event.ensures.slaves ∙ i.world;
      model = next_after w (world_of at c.loop-given.engine) event k (model_of at c.loop-given.engine) (model_of at c.event.new.self) c.next_event.result i.world i.model e (ap (λ x. x.1) c.in_ok-event.ensures.ok);
      draws = next_draw c.args.number k _ _ i.draws c.next_event.ensures.rest;
      few = (let l = c.loop-given-test.true in omega (arith, l));
      first = goes_on w event k i.first going;
    }
