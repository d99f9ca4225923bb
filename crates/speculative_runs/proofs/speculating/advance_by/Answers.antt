-- The turns of the machine, and its ways out.
use Rattle.std.proofs.Common.{◌≡◌, ℕ, ◌+◌, ◌<◌, ◌≤◌, ◌∙◌, ap, sym, refl, subst, arith, false, length, drop, List, Bool}
use Rattle.outside.specs.Answers.{Gains}
use Rattle.cells.specs.Run.{State}
use Rattle.speculation.specs.Engine.{Model, happens}
use Rattle.speculation_schedules.specs.Schedule.{after, has_come}
use Rattle.dist_image.specs.Image.{Distilled}
use Rattle.image_semantics.specs.World.{world}
use Rattle.engine.specs.Whole.{start_of, model_of, world_of, image_of, slaves_of}
use Rattle.speculative_runs.specs.Driven.{Stops}
use Rattle.speculative_runs.specs.Speculated.{events_of}
use Rattle.speculative_runs.proofs.Stops.{few_events, comes, its_course, counted_after, next_after, begins_after, silent_after}
use Rattle.report.proofs.Gained.{gains-none}
use Rattle.speculative_runs.proofs.Turns.{start}
use Rattle.speculative_runs.proofs.Advances.{all_put, stopped_here, no_memory, not_yet_too, room_to_put, put_too, stopped_there}
use Rattle.speculative_runs.proofs.speculating.advance_by.Goals as goal

-- the same world, from its parts
same_world : (s t : State) (i j : Distilled) (m n : ℕ) → s ≡ t → i ≡ j → m ≡ n → world s i m ≡ world t j n
same_world s t i j m n a b c = λ z. world (a z) (b z) (c z)

-- a test of the machine as it is told
goes_on : (far : ℕ) (m m' : Model) (b : Bool) → b ≡ has_come far m → b ≡ false → m ≡ m' → has_come far m' ≡ false
goes_on far m m' b e f is = ap (has_come far) (sym is) ∙ sym e ∙ f

pub loop-alloc-init : goal.loop-alloc-init
loop-alloc-init g c =
    let at = g.M.Memory.at in
    let e0 = c.args.pair.now.engine in
    let begun = begins_after (world_of at e0) (events_of c.args.schedule (slaves_of e0)) (model_of at e0) c.requires.fresh in
    let silent = silent_after (world_of at e0) (events_of c.args.schedule (slaves_of e0)) c.requires.silent in
    record {
      world = refl;
      model = begun;
      not_yet = λ i l. grind arith;
      place = start (c.args.slaves + 7) (omega arith);
      within = omega arith;
      put = sym (ap (λ (bs : List ℕ). length bs) silent);
      told = gains-none (g.O.Sink.told c.args.out.now) _ silent;
      faults = omega arith;
    }

pub event-requires : goal.event-requires
event-requires g c =
    let at = g.M.Memory.at in
    let e0 = c.args.pair.now.engine in
    let i = c.loop-alloc.invariant in
    let some : 0 < slaves_of e0 = let s = c.requires.slaves in let l = c.requires.some in omega (arith, s, l) in
    let goes = goes_on c.args.budget (model_of at c.loop-alloc.pair.engine) (after (world_of at e0) (events_of c.args.schedule (slaves_of e0)) c.loop-alloc.given) c.has_come.result c.has_come.ensures c.loop-alloc-test.true i.model in
    let counted = ap (λ (m : Model). m.counts.events) i.model ∙ counted_after (world_of at e0) (events_of c.args.schedule (slaves_of e0)) c.loop-alloc.given in
    let l = comes (start_of at e0) (image_of e0) (slaves_of e0) c.requires.image some c.args.schedule c.args.budget c.loop-alloc.given goes in
    let few : slaves_of e0 ≤ 64 = let s = c.requires.slaves in let l = c.requires.few in omega (arith, s, l) in
    let room = few_events (start_of at e0) (image_of e0) (slaves_of e0) c.requires.image some c.args.schedule c.args.budget few c.requires.most in
    omega (arith, counted, l, room)

pub returns-in-Err-clause-err : goal.returns-in-Err-clause-err
returns-in-Err-clause-err g c =
    let at = g.M.Memory.at in
    let e0 = c.args.pair.now.engine in
    let i = c.loop-alloc.invariant in
    let some : 0 < slaves_of e0 = let s = c.requires.slaves in let l = c.requires.some in omega (arith, s, l) in
    let course = its_course (start_of at e0) (image_of e0) (slaves_of e0) c.requires.image some c.args.schedule c.args.budget c.requires.least c.requires.running in
    no_memory course c.loop-alloc.given i.not_yet (g.O.Sink.told c.args.out.now) (g.O.Sink.told c.loop-alloc.out) i.told (g.O.Sink.faults c.args.out.now) (g.O.Sink.faults c.loop-alloc.out)

pub put_after-requires-clause-from : goal.put_after-requires-clause-from
put_after-requires-clause-from g c =
    let at = g.M.Memory.at in
    let e0 = c.args.pair.now.engine in
    let i = c.loop-alloc.invariant in
    let some : 0 < slaves_of e0 = let s = c.requires.slaves in let l = c.requires.some in omega (arith, s, l) in
    let course = its_course (start_of at e0) (image_of e0) (slaves_of e0) c.requires.image some c.args.schedule c.args.budget c.requires.least c.requires.running in
    let goes = goes_on c.args.budget (model_of at c.loop-alloc.pair.engine) (after (world_of at e0) (events_of c.args.schedule (slaves_of e0)) c.loop-alloc.given) c.has_come.result c.has_come.ensures c.loop-alloc-test.true i.model in
    let model : model_of at c.event.new.self.engine ≡ after (world_of at e0) (events_of c.args.schedule (slaves_of e0)) (c.loop-alloc.given + 1) =
    next_after (world_of at e0) (events_of c.args.schedule (slaves_of e0)) c.loop-alloc.given (c.loop-alloc.given + 1) (model_of at c.loop-alloc.pair.engine) (model_of at c.event.new.self.engine) c.event_at-e.result.0 i.model
    (c.event_at-e.ensures.event c.loop-alloc.given i.place ∙ ap (λ n. events_of c.args.schedule n c.loop-alloc.given) c.requires.slaves)
    (ap (λ x. x.1) c.in-Ok.ensures.ok ∙ ap (λ w. (happens w (model_of at c.loop-alloc.pair.engine) c.event_at-e.result.0).1) i.world) refl in
    subst (λ (m : Model). c.loop-alloc.put ≤ length m.committed.env.output) (sym model)
    (room_to_put course c.loop-alloc.given i.not_yet (g.O.Sink.told c.args.out.now) (g.O.Sink.told c.loop-alloc.out) i.told (c.loop-alloc.given + 1) c.loop-alloc.put refl i.put goes)

pub put_after-requires-clause-idle : goal.put_after-requires-clause-idle
put_after-requires-clause-idle g c =
    let at = g.M.Memory.at in
    let e0 = c.args.pair.now.engine in
    let e1 = c.loop-alloc.pair.engine in
    let i = c.loop-alloc.invariant in
    all_put (world_of at e1) (model_of at e1) (model_of at c.event.new.self.engine) (after (world_of at e0) (events_of c.args.schedule (slaves_of e0)) c.loop-alloc.given) c.event_at-e.result.0 c.in-Ok.effect c.loop-alloc.put
    c.in-Ok.ensures.told i.model i.put

pub returns-in-Err-put_after-clause-err : goal.returns-in-Err-put_after-clause-err
returns-in-Err-put_after-clause-err g c =
    let at = g.M.Memory.at in
    let e0 = c.args.pair.now.engine in
    let i = c.loop-alloc.invariant in
    let some : 0 < slaves_of e0 = let s = c.requires.slaves in let l = c.requires.some in omega (arith, s, l) in
    let course = its_course (start_of at e0) (image_of e0) (slaves_of e0) c.requires.image some c.args.schedule c.args.budget c.requires.least c.requires.running in
    let goes = goes_on c.args.budget (model_of at c.loop-alloc.pair.engine) (after (world_of at e0) (events_of c.args.schedule (slaves_of e0)) c.loop-alloc.given) c.has_come.result c.has_come.ensures c.loop-alloc-test.true i.model in
    let model : model_of at c.event.new.self.engine ≡ after (world_of at e0) (events_of c.args.schedule (slaves_of e0)) (c.loop-alloc.given + 1) =
    next_after (world_of at e0) (events_of c.args.schedule (slaves_of e0)) c.loop-alloc.given (c.loop-alloc.given + 1) (model_of at c.loop-alloc.pair.engine) (model_of at c.event.new.self.engine) c.event_at-e.result.0 i.model
    (c.event_at-e.ensures.event c.loop-alloc.given i.place ∙ ap (λ n. events_of c.args.schedule n c.loop-alloc.given) c.requires.slaves)
    (ap (λ x. x.1) c.in-Ok.ensures.ok ∙ ap (λ w. (happens w (model_of at c.loop-alloc.pair.engine) c.event_at-e.result.0).1) i.world) refl in
    stopped_there course c.loop-alloc.given i.not_yet (g.O.Sink.told c.args.out.now) (g.O.Sink.told c.loop-alloc.out) i.told (c.loop-alloc.given + 1) c.loop-alloc.put refl i.put goes
    (g.O.Sink.told c.put_after.new.out) (g.O.Sink.faults c.args.out.now) (g.O.Sink.faults c.loop-alloc.out) (g.O.Sink.faults c.put_after.new.out) c.in-Err-put_after.answer i.faults
    (subst (λ (m : Model). Stops (g.O.Sink.told c.loop-alloc.out) (g.O.Sink.told c.put_after.new.out) (g.O.Sink.faults c.loop-alloc.out) (g.O.Sink.faults c.put_after.new.out) (drop c.loop-alloc.put m.committed.env.output) c.in-Err-put_after.answer) model c.in-Err-put_after.ensures.err)

pub overflow_add-given : goal.overflow_add-given
overflow_add-given g c =
    let at = g.M.Memory.at in
    let e0 = c.args.pair.now.engine in
    let i = c.loop-alloc.invariant in
    let some : 0 < slaves_of e0 = let s = c.requires.slaves in let l = c.requires.some in omega (arith, s, l) in
    let goes = goes_on c.args.budget (model_of at c.loop-alloc.pair.engine) (after (world_of at e0) (events_of c.args.schedule (slaves_of e0)) c.loop-alloc.given) c.has_come.result c.has_come.ensures c.loop-alloc-test.true i.model in
    let l = comes (start_of at e0) (image_of e0) (slaves_of e0) c.requires.image some c.args.schedule c.args.budget c.loop-alloc.given goes in
    let few : slaves_of e0 ≤ 64 = let s = c.requires.slaves in let l = c.requires.few in omega (arith, s, l) in
    let room = few_events (start_of at e0) (image_of e0) (slaves_of e0) c.requires.image some c.args.schedule c.args.budget few c.requires.most in
    omega (arith, l, room)

pub loop-alloc-smaller : goal.loop-alloc-smaller
loop-alloc-smaller g c =
    let at = g.M.Memory.at in
    let e0 = c.args.pair.now.engine in
    let i = c.loop-alloc.invariant in
    let some : 0 < slaves_of e0 = let s = c.requires.slaves in let l = c.requires.some in omega (arith, s, l) in
    let goes = goes_on c.args.budget (model_of at c.loop-alloc.pair.engine) (after (world_of at e0) (events_of c.args.schedule (slaves_of e0)) c.loop-alloc.given) c.has_come.result c.has_come.ensures c.loop-alloc-test.true i.model in
    let l = comes (start_of at e0) (image_of e0) (slaves_of e0) c.requires.image some c.args.schedule c.args.budget c.loop-alloc.given goes in
    omega (arith, l)

pub loop-alloc-preserved : goal.loop-alloc-preserved
loop-alloc-preserved g c =
    let at = g.M.Memory.at in
    let e0 = c.args.pair.now.engine in
    let i = c.loop-alloc.invariant in
    let some : 0 < slaves_of e0 = let s = c.requires.slaves in let l = c.requires.some in omega (arith, s, l) in
    let course = its_course (start_of at e0) (image_of e0) (slaves_of e0) c.requires.image some c.args.schedule c.args.budget c.requires.least c.requires.running in
    let goes = goes_on c.args.budget (model_of at c.loop-alloc.pair.engine) (after (world_of at e0) (events_of c.args.schedule (slaves_of e0)) c.loop-alloc.given) c.has_come.result c.has_come.ensures c.loop-alloc-test.true i.model in
    let model : model_of at c.event.new.self.engine ≡ after (world_of at e0) (events_of c.args.schedule (slaves_of e0)) (c.loop-alloc.given + 1) =
    next_after (world_of at e0) (events_of c.args.schedule (slaves_of e0)) c.loop-alloc.given (c.loop-alloc.given + 1) (model_of at c.loop-alloc.pair.engine) (model_of at c.event.new.self.engine) c.event_at-e.result.0 i.model
    (c.event_at-e.ensures.event c.loop-alloc.given i.place ∙ ap (λ n. events_of c.args.schedule n c.loop-alloc.given) c.requires.slaves)
    (ap (λ x. x.1) c.in-Ok.ensures.ok ∙ ap (λ w. (happens w (model_of at c.loop-alloc.pair.engine) c.event_at-e.result.0).1) i.world) refl in
    record {
      world = same_world _ _ _ _ _ _ c.in-Ok.ensures.start c.in-Ok.ensures.image c.in-Ok.ensures.slaves ∙ i.world;
      model = model;
      not_yet = not_yet_too course c.loop-alloc.given i.not_yet (g.O.Sink.told c.args.out.now) (g.O.Sink.told c.loop-alloc.out) i.told (c.loop-alloc.given + 1) c.loop-alloc.put refl i.put goes;
      place = c.event_at-e.ensures.next c.loop-alloc.given i.place;
      within = c.event_at-e.ensures.within;
      put = c.in-Ok-put_after.ensures.length ∙ ap (λ (m : Model). length m.committed.env.output) model;
      told = put_too course c.loop-alloc.given i.not_yet (g.O.Sink.told c.args.out.now) (g.O.Sink.told c.loop-alloc.out) i.told (c.loop-alloc.given + 1) c.loop-alloc.put refl i.put goes (g.O.Sink.told c.put_after.new.out)
          (subst (λ (m : Model). Gains (g.O.Sink.told c.loop-alloc.out) (g.O.Sink.told c.put_after.new.out) (drop c.loop-alloc.put m.committed.env.output)) model c.in-Ok-put_after.ensures.ok);
      faults = (let f = c.put_after.ensures.faults in omega (arith, f));
    }

pub returns-clause-ok : goal.returns-clause-ok
returns-clause-ok g c =
    let at = g.M.Memory.at in
    let e0 = c.args.pair.now.engine in
    let i = c.loop-alloc.invariant in
    let some : 0 < slaves_of e0 = let s = c.requires.slaves in let l = c.requires.some in omega (arith, s, l) in
    let course = its_course (start_of at e0) (image_of e0) (slaves_of e0) c.requires.image some c.args.schedule c.args.budget c.requires.least c.requires.running in
    let there = ap (has_come c.args.budget) (sym i.model) ∙ sym c.has_come.ensures ∙ c.loop-alloc-test.false in
    (c.loop-alloc.given, stopped_here course c.loop-alloc.given i.not_yet (g.O.Sink.told c.args.out.now) (g.O.Sink.told c.loop-alloc.out) i.told there, i.model, i.told)
