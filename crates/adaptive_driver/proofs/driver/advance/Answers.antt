-- The turns of a machine that adapts, and its ways out.
use Rattle.std.proofs.Common.{◌≡◌, ℕ, ◌+◌, ◌-◌, ◌%◌, ◌<◌, ◌≤◌, ◌∙◌, ap, sym, refl, subst, arith, false, length, drop, List, Bool, []}
use Rattle.outside.specs.Answers.{Gains}
use Rattle.speculation.specs.Engine.{Model, fresh}
use Rattle.speculation_schedules.specs.Schedule.{in_rounds, has_come}
use Rattle.engine.specs.Whole.{slaves_of, model_of, world_of}
use Rattle.adaptive_runs.specs.Adaptive.{Stage, ready, adapted, model_at}
use Rattle.adaptive_runs.proofs.Worlds.{ready_model}
use Rattle.report.proofs.Gained.{gains-none}
use Rattle.speculative_runs.specs.Driven.{Stops}
use Rattle.speculative_runs.proofs.Turns.{at_turn, start}
use Rattle.speculative_runs.proofs.Advances.{all_put, stopped_here, no_memory, not_yet_too, room_to_put, put_too, stopped_there}
use Rattle.adaptive_driver.specs.Adapted.{plan_with, stage_of}
use Rattle.adaptive_driver.proofs.Course.{counted, begins, bound, next_stage, few_events, world_alike, readied, alike_still, run_on, course_of, stands_before}
use Rattle.adaptive_driver.proofs.driver.advance.Goals as goal

-- a test of the machine as it is told
goes_on : (far : ℕ) (m m' : Model) (b : Bool) → b ≡ has_come far m → b ≡ false → m ≡ m' → has_come far m' ≡ false
goes_on far m m' b e f is = ap (has_come far) (sym is) ∙ sym e ∙ f

smaller : (far slaves here k : ℕ) → slaves ≡ here → k < bound far here → bound far slaves - (k + 1) < bound far slaves - k
smaller far slaves here k same l = let l' : k < bound far slaves = subst (λ n. k < bound far n) (sym same) l in omega (arith, l')

pub loop-alloc-init : goal.loop-alloc-init
loop-alloc-init g c =
    let at = g.M.Memory.at in
    let e0 = c.args.pair.now.engine in
    let a0 = c.args.adapter.now in
    let p = plan_with at e0 a0 in
    let w = world_alike at e0 e0 a0 a0 c.requires.run (refl, refl, refl) refl in
    let stage : stage_of at e0 a0 ≡ adapted p 0 = begins p (stage_of at e0 a0) (c.requires.fresh ∙ ap fresh w) refl c.requires.due in
    let silent : (model_at p 0).committed.env.output ≡ [] = ap (λ (m : Model). m.committed.env.output) (sym (ap (λ (s : Stage). s.model) stage) ∙ c.requires.fresh) ∙ c.requires.silent in
    record {
      stage = stage;
      run = c.requires.run;
      alike = (refl, refl, refl);
      slaves = refl;
      not_yet = λ i l. grind arith;
      place = start (c.args.slaves + 7) (omega arith);
      within = omega arith;
      put = sym (ap (λ (bs : List ℕ). length bs) silent);
      told = gains-none (g.O.Sink.told c.args.out.now) _ silent;
      faults = omega arith;
    }

pub make_ready-requires-clause-near : goal.make_ready-requires-clause-near
make_ready-requires-clause-near g c =
    let at = g.M.Memory.at in
    let e0 = c.args.pair.now.engine in
    let a0 = c.args.adapter.now in
    let p = plan_with at e0 a0 in
    let i = c.loop-alloc.invariant in
    let k = c.loop-alloc.given in
    let some : 0 < slaves_of e0 = let s = c.requires.slaves in let l = c.requires.some in omega (arith, s, l) in
    let course = course_of at e0 a0 c.requires.run c.requires.made c.requires.image some c.args.budget c.requires.least c.requires.running in
    let here : model_of at c.loop-alloc.pair.engine ≡ model_at p k = ap (λ (s : Stage). s.model) i.stage in
    let goes = goes_on c.args.budget (model_of at c.loop-alloc.pair.engine) (model_at p k) c.has_come.result c.has_come.ensures c.loop-alloc-test.true here in
    let before = stands_before c.args.budget (model_at p k) goes in
    let same : (model_of at c.loop-alloc.pair.engine).position ≡ (model_at p k).position = ap (λ (m : Model). m.position) here in
    let most = c.requires.most in
    omega (arith, before, same, most)

pub returns-in-Err-clause-err : goal.returns-in-Err-clause-err
returns-in-Err-clause-err g c =
    let at = g.M.Memory.at in
    let e0 = c.args.pair.now.engine in
    let a0 = c.args.adapter.now in
    let p = plan_with at e0 a0 in
    let i = c.loop-alloc.invariant in
    let k = c.loop-alloc.given in
    let some : 0 < slaves_of e0 = let s = c.requires.slaves in let l = c.requires.some in omega (arith, s, l) in
    let course = course_of at e0 a0 c.requires.run c.requires.made c.requires.image some c.args.budget c.requires.least c.requires.running in
    no_memory course k i.not_yet (g.O.Sink.told c.args.out.now) (g.O.Sink.told c.loop-alloc.out) i.told (g.O.Sink.faults c.args.out.now) (g.O.Sink.faults c.loop-alloc.out)

pub event-requires : goal.event-requires
event-requires g c =
    let at = g.M.Memory.at in
    let e0 = c.args.pair.now.engine in
    let a0 = c.args.adapter.now in
    let p = plan_with at e0 a0 in
    let i = c.loop-alloc.invariant in
    let k = c.loop-alloc.given in
    let some : 0 < slaves_of e0 = let s = c.requires.slaves in let l = c.requires.some in omega (arith, s, l) in
    let course = course_of at e0 a0 c.requires.run c.requires.made c.requires.image some c.args.budget c.requires.least c.requires.running in
    let here : model_of at c.loop-alloc.pair.engine ≡ model_at p k = ap (λ (s : Stage). s.model) i.stage in
    let goes = goes_on c.args.budget (model_of at c.loop-alloc.pair.engine) (model_at p k) c.has_come.result c.has_come.ensures c.loop-alloc-test.true here in
    let few : slaves_of e0 ≤ 64 = let s = c.requires.slaves in let l = c.requires.few in omega (arith, s, l) in
    let room = few_events c.args.budget (slaves_of e0) few c.requires.most in
    let l = course.comes k goes in
    let e1 = c.make_ready.new.pair.engine in
    let a1 = c.make_ready.new.adapter in
    let at_place : k % (slaves_of c.loop-alloc.pair.engine + 7) ≡ c.loop-alloc.place = subst (λ n. k % (n + 7) ≡ c.loop-alloc.place) (c.requires.slaves ∙ sym i.slaves) i.place in
    let is_ready : stage_of at e1 a1 ≡ ready p k (stage_of at c.loop-alloc.pair.engine c.loop-alloc.adapter) =
    readied at c.loop-alloc.pair.engine e0 c.loop-alloc.adapter a0 i.alike i.slaves k (stage_of at e1 a1) (stage_of at c.loop-alloc.pair.engine c.loop-alloc.adapter) (c.in-Ok.ensures.stage k at_place) in
    let same_model : model_of at e1 ≡ model_at p k = ap (λ (s : Stage). s.model) is_ready ∙ ready_model p k (stage_of at c.loop-alloc.pair.engine c.loop-alloc.adapter) ∙ here in
    let counts = ap (λ (m : Model). m.counts.events) same_model ∙ counted p k in
    omega (arith, counts, l, room)

pub returns-in-Err-event-clause-err : goal.returns-in-Err-event-clause-err
returns-in-Err-event-clause-err g c =
    let at = g.M.Memory.at in
    let e0 = c.args.pair.now.engine in
    let a0 = c.args.adapter.now in
    let p = plan_with at e0 a0 in
    let i = c.loop-alloc.invariant in
    let k = c.loop-alloc.given in
    let some : 0 < slaves_of e0 = let s = c.requires.slaves in let l = c.requires.some in omega (arith, s, l) in
    let course = course_of at e0 a0 c.requires.run c.requires.made c.requires.image some c.args.budget c.requires.least c.requires.running in
    no_memory course k i.not_yet (g.O.Sink.told c.args.out.now) (g.O.Sink.told c.loop-alloc.out) i.told (g.O.Sink.faults c.args.out.now) (g.O.Sink.faults c.loop-alloc.out)

pub put_after-requires-clause-from : goal.put_after-requires-clause-from
put_after-requires-clause-from g c =
    let at = g.M.Memory.at in
    let e0 = c.args.pair.now.engine in
    let a0 = c.args.adapter.now in
    let p = plan_with at e0 a0 in
    let i = c.loop-alloc.invariant in
    let k = c.loop-alloc.given in
    let some : 0 < slaves_of e0 = let s = c.requires.slaves in let l = c.requires.some in omega (arith, s, l) in
    let course = course_of at e0 a0 c.requires.run c.requires.made c.requires.image some c.args.budget c.requires.least c.requires.running in
    let here : model_of at c.loop-alloc.pair.engine ≡ model_at p k = ap (λ (s : Stage). s.model) i.stage in
    let goes = goes_on c.args.budget (model_of at c.loop-alloc.pair.engine) (model_at p k) c.has_come.result c.has_come.ensures c.loop-alloc-test.true here in
    let e1 = c.make_ready.new.pair.engine in
    let a1 = c.make_ready.new.adapter in
    let at_place : k % (slaves_of c.loop-alloc.pair.engine + 7) ≡ c.loop-alloc.place = subst (λ n. k % (n + 7) ≡ c.loop-alloc.place) (c.requires.slaves ∙ sym i.slaves) i.place in
    let is_ready : stage_of at e1 a1 ≡ ready p k (stage_of at c.loop-alloc.pair.engine c.loop-alloc.adapter) =
    readied at c.loop-alloc.pair.engine e0 c.loop-alloc.adapter a0 i.alike i.slaves k (stage_of at e1 a1) (stage_of at c.loop-alloc.pair.engine c.loop-alloc.adapter) (c.in-Ok.ensures.stage k at_place) in
    let same_model : model_of at e1 ≡ model_at p k = ap (λ (s : Stage). s.model) is_ready ∙ ready_model p k (stage_of at c.loop-alloc.pair.engine c.loop-alloc.adapter) ∙ here in
    let alike = alike_still a1 c.loop-alloc.adapter a0 c.in-Ok.ensures.alike i.alike in
    let slaves = c.in-Ok.ensures.slaves ∙ i.slaves in
    let e2 = c.event.new.self.engine in
    let is_event : c.turn-e.result.0 ≡ in_rounds p.slaves k = at_turn c.args.slaves c.loop-alloc.place c.turn-e.result.0 c.turn-e.ensures.event k i.place ∙ ap (λ n. in_rounds n k) c.requires.slaves in
    let next : stage_of at e2 a1 ≡ adapted p (k + 1) =
    next_stage p k (k + 1) (stage_of at c.loop-alloc.pair.engine c.loop-alloc.adapter) (stage_of at e1 a1) (stage_of at e2 a1) (world_of at e1) c.turn-e.result.0 i.stage is_ready
    (world_alike at e1 e0 a1 a0 c.in-Ok.ensures.run alike slaves) is_event (ap (λ x. x.1) c.in-Ok-event.ensures.ok) c.in-Ok-event.ensures.image refl refl in
    let model : model_of at e2 ≡ model_at p (k + 1) = ap (λ (s : Stage). s.model) next in
    subst (λ (m : Model). c.loop-alloc.put ≤ length m.committed.env.output) (sym model)
    (room_to_put course k i.not_yet (g.O.Sink.told c.args.out.now) (g.O.Sink.told c.loop-alloc.out) i.told (k + 1) c.loop-alloc.put refl i.put goes)

pub put_after-requires-clause-idle : goal.put_after-requires-clause-idle
put_after-requires-clause-idle g c =
    let at = g.M.Memory.at in
    let e0 = c.args.pair.now.engine in
    let a0 = c.args.adapter.now in
    let p = plan_with at e0 a0 in
    let i = c.loop-alloc.invariant in
    let k = c.loop-alloc.given in
    let here : model_of at c.loop-alloc.pair.engine ≡ model_at p k = ap (λ (s : Stage). s.model) i.stage in
    let e1 = c.make_ready.new.pair.engine in
    let a1 = c.make_ready.new.adapter in
    let at_place : k % (slaves_of c.loop-alloc.pair.engine + 7) ≡ c.loop-alloc.place = subst (λ n. k % (n + 7) ≡ c.loop-alloc.place) (c.requires.slaves ∙ sym i.slaves) i.place in
    let is_ready : stage_of at e1 a1 ≡ ready p k (stage_of at c.loop-alloc.pair.engine c.loop-alloc.adapter) =
    readied at c.loop-alloc.pair.engine e0 c.loop-alloc.adapter a0 i.alike i.slaves k (stage_of at e1 a1) (stage_of at c.loop-alloc.pair.engine c.loop-alloc.adapter) (c.in-Ok.ensures.stage k at_place) in
    let same_model : model_of at e1 ≡ model_at p k = ap (λ (s : Stage). s.model) is_ready ∙ ready_model p k (stage_of at c.loop-alloc.pair.engine c.loop-alloc.adapter) ∙ here in
    all_put (world_of at e1) (model_of at e1) (model_of at c.event.new.self.engine) (model_at p k) c.turn-e.result.0 c.in-Ok-event.effect c.loop-alloc.put c.in-Ok-event.ensures.told same_model i.put

pub returns-in-Err-put_after-clause-err : goal.returns-in-Err-put_after-clause-err
returns-in-Err-put_after-clause-err g c =
    let at = g.M.Memory.at in
    let e0 = c.args.pair.now.engine in
    let a0 = c.args.adapter.now in
    let p = plan_with at e0 a0 in
    let i = c.loop-alloc.invariant in
    let k = c.loop-alloc.given in
    let some : 0 < slaves_of e0 = let s = c.requires.slaves in let l = c.requires.some in omega (arith, s, l) in
    let course = course_of at e0 a0 c.requires.run c.requires.made c.requires.image some c.args.budget c.requires.least c.requires.running in
    let here : model_of at c.loop-alloc.pair.engine ≡ model_at p k = ap (λ (s : Stage). s.model) i.stage in
    let goes = goes_on c.args.budget (model_of at c.loop-alloc.pair.engine) (model_at p k) c.has_come.result c.has_come.ensures c.loop-alloc-test.true here in
    let e1 = c.make_ready.new.pair.engine in
    let a1 = c.make_ready.new.adapter in
    let at_place : k % (slaves_of c.loop-alloc.pair.engine + 7) ≡ c.loop-alloc.place = subst (λ n. k % (n + 7) ≡ c.loop-alloc.place) (c.requires.slaves ∙ sym i.slaves) i.place in
    let is_ready : stage_of at e1 a1 ≡ ready p k (stage_of at c.loop-alloc.pair.engine c.loop-alloc.adapter) =
    readied at c.loop-alloc.pair.engine e0 c.loop-alloc.adapter a0 i.alike i.slaves k (stage_of at e1 a1) (stage_of at c.loop-alloc.pair.engine c.loop-alloc.adapter) (c.in-Ok.ensures.stage k at_place) in
    let same_model : model_of at e1 ≡ model_at p k = ap (λ (s : Stage). s.model) is_ready ∙ ready_model p k (stage_of at c.loop-alloc.pair.engine c.loop-alloc.adapter) ∙ here in
    let alike = alike_still a1 c.loop-alloc.adapter a0 c.in-Ok.ensures.alike i.alike in
    let slaves = c.in-Ok.ensures.slaves ∙ i.slaves in
    let e2 = c.event.new.self.engine in
    let is_event : c.turn-e.result.0 ≡ in_rounds p.slaves k = at_turn c.args.slaves c.loop-alloc.place c.turn-e.result.0 c.turn-e.ensures.event k i.place ∙ ap (λ n. in_rounds n k) c.requires.slaves in
    let next : stage_of at e2 a1 ≡ adapted p (k + 1) =
    next_stage p k (k + 1) (stage_of at c.loop-alloc.pair.engine c.loop-alloc.adapter) (stage_of at e1 a1) (stage_of at e2 a1) (world_of at e1) c.turn-e.result.0 i.stage is_ready
    (world_alike at e1 e0 a1 a0 c.in-Ok.ensures.run alike slaves) is_event (ap (λ x. x.1) c.in-Ok-event.ensures.ok) c.in-Ok-event.ensures.image refl refl in
    let model : model_of at e2 ≡ model_at p (k + 1) = ap (λ (s : Stage). s.model) next in
    stopped_there course k i.not_yet (g.O.Sink.told c.args.out.now) (g.O.Sink.told c.loop-alloc.out) i.told (k + 1) c.loop-alloc.put refl i.put goes
    (g.O.Sink.told c.put_after.new.out) (g.O.Sink.faults c.args.out.now) (g.O.Sink.faults c.loop-alloc.out) (g.O.Sink.faults c.put_after.new.out) c.in-Err-put_after.answer i.faults
    (subst (λ (m : Model). Stops (g.O.Sink.told c.loop-alloc.out) (g.O.Sink.told c.put_after.new.out) (g.O.Sink.faults c.loop-alloc.out) (g.O.Sink.faults c.put_after.new.out) (drop c.loop-alloc.put m.committed.env.output) c.in-Err-put_after.answer) model c.in-Err-put_after.ensures.err)

pub overflow_add-given : goal.overflow_add-given
overflow_add-given g c =
    let at = g.M.Memory.at in
    let e0 = c.args.pair.now.engine in
    let a0 = c.args.adapter.now in
    let p = plan_with at e0 a0 in
    let i = c.loop-alloc.invariant in
    let k = c.loop-alloc.given in
    let some : 0 < slaves_of e0 = let s = c.requires.slaves in let l = c.requires.some in omega (arith, s, l) in
    let course = course_of at e0 a0 c.requires.run c.requires.made c.requires.image some c.args.budget c.requires.least c.requires.running in
    let here : model_of at c.loop-alloc.pair.engine ≡ model_at p k = ap (λ (s : Stage). s.model) i.stage in
    let goes = goes_on c.args.budget (model_of at c.loop-alloc.pair.engine) (model_at p k) c.has_come.result c.has_come.ensures c.loop-alloc-test.true here in
    let few : slaves_of e0 ≤ 64 = let s = c.requires.slaves in let l = c.requires.few in omega (arith, s, l) in
    let room = few_events c.args.budget (slaves_of e0) few c.requires.most in
    let l = course.comes k goes in
    omega (arith, l, room)

pub loop-alloc-smaller : goal.loop-alloc-smaller
loop-alloc-smaller g c =
    let at = g.M.Memory.at in
    let e0 = c.args.pair.now.engine in
    let a0 = c.args.adapter.now in
    let p = plan_with at e0 a0 in
    let i = c.loop-alloc.invariant in
    let k = c.loop-alloc.given in
    let some : 0 < slaves_of e0 = let s = c.requires.slaves in let l = c.requires.some in omega (arith, s, l) in
    let course = course_of at e0 a0 c.requires.run c.requires.made c.requires.image some c.args.budget c.requires.least c.requires.running in
    let here : model_of at c.loop-alloc.pair.engine ≡ model_at p k = ap (λ (s : Stage). s.model) i.stage in
    let goes = goes_on c.args.budget (model_of at c.loop-alloc.pair.engine) (model_at p k) c.has_come.result c.has_come.ensures c.loop-alloc-test.true here in
    let l = course.comes k goes in
    let same = c.requires.slaves in
    smaller c.args.budget c.args.slaves (slaves_of e0) k same l

pub loop-alloc-preserved : goal.loop-alloc-preserved
loop-alloc-preserved g c =
    let at = g.M.Memory.at in
    let e0 = c.args.pair.now.engine in
    let a0 = c.args.adapter.now in
    let p = plan_with at e0 a0 in
    let i = c.loop-alloc.invariant in
    let k = c.loop-alloc.given in
    let some : 0 < slaves_of e0 = let s = c.requires.slaves in let l = c.requires.some in omega (arith, s, l) in
    let course = course_of at e0 a0 c.requires.run c.requires.made c.requires.image some c.args.budget c.requires.least c.requires.running in
    let here : model_of at c.loop-alloc.pair.engine ≡ model_at p k = ap (λ (s : Stage). s.model) i.stage in
    let goes = goes_on c.args.budget (model_of at c.loop-alloc.pair.engine) (model_at p k) c.has_come.result c.has_come.ensures c.loop-alloc-test.true here in
    let e1 = c.make_ready.new.pair.engine in
    let a1 = c.make_ready.new.adapter in
    let at_place : k % (slaves_of c.loop-alloc.pair.engine + 7) ≡ c.loop-alloc.place = subst (λ n. k % (n + 7) ≡ c.loop-alloc.place) (c.requires.slaves ∙ sym i.slaves) i.place in
    let is_ready : stage_of at e1 a1 ≡ ready p k (stage_of at c.loop-alloc.pair.engine c.loop-alloc.adapter) =
    readied at c.loop-alloc.pair.engine e0 c.loop-alloc.adapter a0 i.alike i.slaves k (stage_of at e1 a1) (stage_of at c.loop-alloc.pair.engine c.loop-alloc.adapter) (c.in-Ok.ensures.stage k at_place) in
    let same_model : model_of at e1 ≡ model_at p k = ap (λ (s : Stage). s.model) is_ready ∙ ready_model p k (stage_of at c.loop-alloc.pair.engine c.loop-alloc.adapter) ∙ here in
    let alike = alike_still a1 c.loop-alloc.adapter a0 c.in-Ok.ensures.alike i.alike in
    let slaves = c.in-Ok.ensures.slaves ∙ i.slaves in
    let e2 = c.event.new.self.engine in
    let is_event : c.turn-e.result.0 ≡ in_rounds p.slaves k = at_turn c.args.slaves c.loop-alloc.place c.turn-e.result.0 c.turn-e.ensures.event k i.place ∙ ap (λ n. in_rounds n k) c.requires.slaves in
    let next : stage_of at e2 a1 ≡ adapted p (k + 1) =
    next_stage p k (k + 1) (stage_of at c.loop-alloc.pair.engine c.loop-alloc.adapter) (stage_of at e1 a1) (stage_of at e2 a1) (world_of at e1) c.turn-e.result.0 i.stage is_ready
    (world_alike at e1 e0 a1 a0 c.in-Ok.ensures.run alike slaves) is_event (ap (λ x. x.1) c.in-Ok-event.ensures.ok) c.in-Ok-event.ensures.image refl refl in
    let model : model_of at e2 ≡ model_at p (k + 1) = ap (λ (s : Stage). s.model) next in
    record {
      stage = next;
      run = run_on at e1 e2 a1 c.in-Ok.ensures.run c.in-Ok-event.ensures.start c.in-Ok-event.ensures.rises;
      alike = alike;
      slaves = c.in-Ok-event.ensures.slaves ∙ slaves;
      not_yet = not_yet_too course k i.not_yet (g.O.Sink.told c.args.out.now) (g.O.Sink.told c.loop-alloc.out) i.told (k + 1) c.loop-alloc.put refl i.put goes;
      place = c.turn-e.ensures.next k i.place;
      within = c.turn-e.ensures.within;
      put = c.in-Ok-put_after.ensures.length ∙ ap (λ (m : Model). length m.committed.env.output) model;
      told = put_too course k i.not_yet (g.O.Sink.told c.args.out.now) (g.O.Sink.told c.loop-alloc.out) i.told (k + 1) c.loop-alloc.put refl i.put goes (g.O.Sink.told c.put_after.new.out)
          (subst (λ (m : Model). Gains (g.O.Sink.told c.loop-alloc.out) (g.O.Sink.told c.put_after.new.out) (drop c.loop-alloc.put m.committed.env.output)) model c.in-Ok-put_after.ensures.ok);
      faults = (let f = c.put_after.ensures.faults in omega (arith, f));
    }

pub returns-clause-ok : goal.returns-clause-ok
returns-clause-ok g c =
    let at = g.M.Memory.at in
    let e0 = c.args.pair.now.engine in
    let a0 = c.args.adapter.now in
    let p = plan_with at e0 a0 in
    let i = c.loop-alloc.invariant in
    let k = c.loop-alloc.given in
    let some : 0 < slaves_of e0 = let s = c.requires.slaves in let l = c.requires.some in omega (arith, s, l) in
    let course = course_of at e0 a0 c.requires.run c.requires.made c.requires.image some c.args.budget c.requires.least c.requires.running in
    let here : model_of at c.loop-alloc.pair.engine ≡ model_at p k = ap (λ (s : Stage). s.model) i.stage in
    let there = ap (has_come c.args.budget) (sym here) ∙ sym c.has_come.ensures ∙ c.loop-alloc-test.false in
    (k, stopped_here course k i.not_yet (g.O.Sink.told c.args.out.now) (g.O.Sink.told c.loop-alloc.out) i.told there, here, i.told)
