-- The course of a machine that adapts: where it stands after each event, and that it comes to a stop.
use Rattle.std.proofs.Common.{◌≡◌, ℕ, ◌+◌, ◌*◌, ◌-◌, ◌^◌, ◌<◌, ◌≤◌, ◌||◌, zero, suc, Bool, true, false, List, refl, sym, ap, subst, ◌∙◌, arith, true≢false}
use Rattle.std.specs.Prelude.{nat_le}
use Rattle.std.proofs.lemmas.Bool.{leb-false}
use Rattle.std.proofs.Math.Nat.{mul-le-mul_left}
use Rattle.cells.specs.Run.{is_over}
use Rattle.elf_reader.specs.Executable.{Executable}
use Rattle.speculation.specs.declared.Event.{Event}
use Rattle.speculation.specs.World.{World}
use Rattle.speculation.specs.Engine.{Model, happens, fresh}
use Rattle.dist_image.specs.Image.{Distilled, IsImage}
use Rattle.image_semantics.specs.World.{world}
use Rattle.speculation_schedules.specs.Schedule.{in_rounds, has_come}
use Rattle.adaptive_runs.specs.Adaptive.{Plan, Stage, beside, ready, adapted, model_at}
use Rattle.adaptive_runs.specs.Laws.{IsPlan}
use Rattle.adaptive_runs.proofs.Worlds.{ready_model, is_run, rises, comes, stops}
use Rattle.memory.specs.declared.Memory.{Ghosts}
use Rattle.seq_machine.specs.Parts.{start_of}
use Rattle.engine.specs.declared.engine.Engine.{Engine}
use Rattle.engine.specs.Whole.{start_of as engine_start, image_of, slaves_of, model_of, world_of}
use Rattle.adapt.specs.Made.{Adapting, made}
use Rattle.adapt.specs.Laws.{AreMade}
use Rattle.speculative_runs.proofs.Along.{happens-events}
use Rattle.speculative_runs.proofs.Stops.{IsCourse, most_steps_few}
use Rattle.adaptive_driver.specs.Adapted.{plan_of, plan_with, AreOfOneRun, AreAlike}

-- each event is counted
pub counted : (p : Plan) (k : ℕ) → (model_at p k).counts.events ≡ k
unfolding adapted
counted p zero = refl
counted p (suc k) =
    let r = ready p k (adapted p k) in
    let one = happens-events (beside p r.image) r.model (in_rounds p.slaves k) in
    let same : r.model.counts.events ≡ (adapted p k).model.counts.events = ap (λ (m : Model). m.counts.events) (ready_model p k (adapted p k)) in
    let before = counted p k in
    omega (arith, one, same, before)

-- where it begins
pub begins : (p : Plan) (s : Stage) → s.model ≡ fresh (beside p p.first) → s.image ≡ p.first → s.due ≡ p.every → s ≡ adapted p 0
unfolding adapted
begins p s model image due = λ i. record { model = model i; image = image i; due = due i }

-- plans that differ in their first image alone are ready alike
pub ready_alike : (p q : Plan) → p.slaves ≡ q.slaves → p.every ≡ q.every → p.made ≡ q.made → (k : ℕ) (s : Stage) → ready p k s ≡ ready q k s
ready_alike p q slaves every made_alike k s = λ i. ready (record { start = p.start; slaves = slaves i; every = every i; first = p.first; made = made_alike i }) k s

-- one event more
pub next_stage : (p : Plan) (k n : ℕ) (s r t : Stage) (w : World) (e : Event) → s ≡ adapted p k → r ≡ ready p k s → w ≡ beside p r.image → e ≡ in_rounds p.slaves k
    → t.model ≡ (happens w r.model e).1 → t.image ≡ r.image → t.due ≡ r.due → n ≡ k + 1 → t ≡ adapted p n
unfolding adapted
next_stage p k n s r t w e is readied world_is event_is model image due one =
    let before : r ≡ ready p k (adapted p k) = readied ∙ ap (ready p k) is in
    let suc_is : suc k ≡ n = omega (arith, one) in
    let here : t ≡ record r { model = (happens (beside p r.image) r.model (in_rounds p.slaves k)).1 } = (λ i. record { model = (model ∙ (λ j. (happens (world_is j) r.model (event_is j)).1)) i; image = image i; due = due i }) in
    here ∙ ap (λ (x : Stage). record x { model = (happens (beside p x.image) x.model (in_rounds p.slaves k)).1 }) before ∙ ap (adapted p) suc_is

-- so many events are enough to come so far
abbrev pub bound : ℕ → ℕ → ℕ
bound far slaves = (5 * 16384 + 7) * far * (slaves + 7)

pub few_events : (far slaves : ℕ) → slaves ≤ 64 → far ≤ 10 ^ 12 → bound far slaves < 2 ^ 64 - 1
few_events far slaves few bounded =
    let a : (5 * 16384 + 7) * far ≤ 81927 * 10 ^ 12 = omega (arith, bounded) in
    let turns : slaves + 7 ≤ 71 = omega (arith, few) in
    let c : (5 * 16384 + 7) * far * (slaves + 7) ≤ (5 * 16384 + 7) * far * 71 = mul-le-mul_left ((5 * 16384 + 7) * far) turns in
    omega (arith, a, c)

module _ (program : Executable) (input : List ℕ) (slaves every : ℕ) (first : Distilled) (are : AreMade program) (is_image : IsImage first) (some : 0 < slaves) where
  abbrev p : Plan
  p = plan_of program input slaves every first

  short : first.limit ≤ 16384
  short = let l = is_image.limit.1 in let few = most_steps_few first.version in omega (arith, l, few)

  is_plan : IsPlan p 16384
  is_plan = record {
    some = some;
    first = (is_image, short);
    made = λ position image e. let m = are input position image e in (m.valid, (let l = m.limit in omega (arith, l)));
  }

  pub its_course : (far : ℕ) → 0 < far → is_over p.start ≡ false → IsCourse p.start (beside p first) (model_at p) far (bound far slaves)
  its_course far least runs = record {
    is_run = λ k. is_run p 16384 is_plan k;
    rises = λ k. rises p 16384 is_plan k;
    comes = λ k not_yet. comes p 16384 is_plan far k not_yet;
    stops = λ k stop. let s = stops p 16384 is_plan runs far k least stop in record { first = stop; sequential = s.0; near = s.1 };
  }

-- ---- an engine and an adapter of one run

pub alike_still : (a b c : Adapting) → AreAlike a b → AreAlike b c → AreAlike a c
alike_still a b c x y = (x.0 ∙ y.0, x.1 ∙ y.1, x.2 ∙ y.2)

module _ {M : Type 0} {d : Ghosts M} (at : M → ℕ → ℕ) where
  -- the world of an engine is one of the plan
  pub world_alike : (e e0 : Engine M d) (a a0 : Adapting) → AreOfOneRun at e a → AreAlike a a0 → slaves_of e ≡ slaves_of e0 → world_of at e ≡ beside (plan_with at e0 a0) (image_of e)
  world_alike e e0 a a0 run alike slaves = λ i. world ((run.start ∙ (λ j. start_of (alike.0 j) (alike.1 j))) i) (image_of e) (slaves i)

  -- what it is readied to
  pub readied : (e e0 : Engine M d) (a a0 : Adapting) → AreAlike a a0 → slaves_of e ≡ slaves_of e0 → (k : ℕ) (r s : Stage) → r ≡ ready (plan_with at e a) k s → r ≡ ready (plan_with at e0 a0) k s
  readied e e0 a a0 alike slaves k r s is =
      is ∙ ready_alike (plan_with at e a) (plan_with at e0 a0) slaves alike.2 (λ i. made (alike.0 i) (start_of (alike.0 i) (alike.1 i))) k s

  -- behind an event
  pub run_on : (e f : Engine M d) (a : Adapting) → AreOfOneRun at e a → engine_start at f ≡ engine_start at e → (model_of at e).position ≤ (model_of at f).position → AreOfOneRun at f a
  run_on e f a run start rises = record { start = start ∙ run.start; asked = (let l = run.asked in omega (arith, l, rises)) }

  pub course_of : (e : Engine M d) (a : Adapting) → AreOfOneRun at e a → AreMade a.program → IsImage (image_of e) → 0 < slaves_of e → (far : ℕ) → 0 < far → is_over (engine_start at e) ≡ false
      → IsCourse (start_of a.program a.input) (world_of at e) (model_at (plan_with at e a)) far (bound far (slaves_of e))
  course_of e a run are is_image some far least runs =
      subst (λ (w : World). IsCourse (start_of a.program a.input) w (model_at (plan_with at e a)) far (bound far (slaves_of e))) (sym (world_alike e e a a run (refl, refl, refl) refl))
      (its_course a.program a.input (slaves_of e) a.every (image_of e) are is_image some far least (ap is_over (sym run.start) ∙ runs))

-- what has not come so far stands before it
pub stands_before : (far : ℕ) (m : Model) → has_come far m ≡ false → m.position < far
stands_before far m not_yet = near_if_over (is_over m.committed) not_yet
  where
    near_if_over : (b : Bool) → (b || nat_le far m.position) ≡ false → m.position < far
    near_if_over false e = leb-false far m.position e
    near_if_over true e = absurd (true≢false e)
