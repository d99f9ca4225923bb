-- Serial steps alone, and where a machine stops.
use Rattle.std.proofs.Common.{◌≡◌, ℕ, ◌+◌, ◌-◌, ◌<◌, ◌≤◌, zero, suc, Bool, true, false, cond, refl, sym, ap, ◌∙◌, arith, inl, inr, ◌⊎◌, ⊎_elim, true≢false}
use Rattle.std.specs.Prelude.{nat_le, ◌||◌}
use Rattle.std.proofs.lemmas.Bool.{or_cases, leb-true, leb-false}
use Rattle.cells.specs.Run.{is_over, is_end}
use Rattle.speculation.specs.declared.Effect.TheVariants.{Idle}
use Rattle.speculation.specs.declared.Event.{Event}
use Rattle.speculation.specs.declared.Event.TheVariants.{Serial as SerialEvent}
use Rattle.speculation.specs.declared.Mode.{Mode}
use Rattle.speculation.specs.declared.Mode.TheVariants.{Serial}
use Rattle.speculation.specs.World.{World, IsWorld, seq}
use Rattle.speculation.specs.Engine.{Model, serial_step, counted, going_on, happens}
use Rattle.speculation_schedules.specs.Schedule.{alone, after, has_come, IsFirstStop}
use Rattle.speculation_schedules.specs.Laws.{StopsAt}
use Rattle.speculation_schedules.proofs.After.{EndsByStep, holds, step_ends, before}

or_false : (a b : Bool) → (a || b) ≡ false → (a ≡ false) × (b ≡ false)
or_false false false e = (refl, refl)
or_false false true e = absurd (true≢false e)
or_false true b e = absurd (true≢false e)

module _ (w : World) (known : IsWorld w) where
  abbrev OnItsWay : ℕ → Model → Type 0
  OnItsWay k m = (m.mode ≡ Serial false) × (m.position ≡ k)

  one_more : (m : Model) (k : ℕ) → is_over m.committed ≡ false → OnItsWay k m → OnItsWay (suc k) (happens w m SerialEvent).1
  unfolding happens
  one_more m k going here =
      let answer = ap (λ (b : Bool). counted SerialEvent m.counts (cond b (Idle, m) (going_on w m SerialEvent))) going
      ∙ ap (λ (d : Mode). counted SerialEvent m.counts (serial_step w m d)) here.0 in
      let next : m.position + 1 ≡ suc k = let p = here.1 in omega (arith, p) in
      (ap (λ x. x.1.mode) answer, ap (λ x. x.1.position) answer ∙ next)

  -- what has not come has not come before, either
  not_before : (event : ℕ → Event) (far j k : ℕ) → j ≤ k → has_come far (after w event k) ≡ false → has_come far (after w event j) ≡ false
  not_before event far j k l not_yet = has_not_come (has_come far (after w event j)) refl
    where
      has_not_come : (b : Bool) → has_come far (after w event j) ≡ b → b ≡ false
      has_not_come false e = refl
      has_not_come true e = absurd (let less = before w known event far k j not_yet e in omega (arith, less, l))

  alone_goes : (far k : ℕ) → has_come far (after w alone k) ≡ false → OnItsWay k (after w alone k)
  unfolding after
  alone_goes far zero not_yet = (refl, refl)
  alone_goes far (suc k) not_yet =
      let earlier = not_before alone far k (suc k) (omega arith) not_yet in
      one_more (after w alone k) k (or_false _ _ earlier).0 (alone_goes far k earlier)

  pub steps_come : (far k : ℕ) → has_come far (after w alone k) ≡ false → k < far
  steps_come far k not_yet =
      let less = leb-false far (after w alone k).position (or_false (is_over (after w alone k).committed) (nat_le far (after w alone k).position) not_yet).1 in
      let here = (alone_goes far k not_yet).1 in
      omega (arith, less, here)

-- an ended run stays where it is
over_stays : (w : World) → IsWorld w → (p d : ℕ) → is_over (seq w p) ≡ true → seq w (d + p) ≡ seq w p
over_stays w known p zero over = let same : 0 + p ≡ p = omega arith in ap (seq w) same
over_stays w known p (suc d) over =
    let same : suc d + p ≡ suc (d + p) = omega arith in
    ap (seq w) same ∙ ap w.step (over_stays w known p d over) ∙ known.over (seq w p) over

over_same : (w : World) → IsWorld w → (p q : ℕ) → p ≤ q → is_over (seq w p) ≡ true → seq w q ≡ seq w p
over_same w known p q l over = let same : (q - p) + p ≡ q = omega (arith, l) in ap (seq w) (sym same) ∙ over_stays w known p (q - p) over

-- the models after each number of events: at first none has ended, each is the run at its position, and an event ends nothing or does a step
module _ (w : World) (known : IsWorld w) (models : ℕ → Model) (runs : is_over (models 0).committed ≡ false) (is_run : (k : ℕ) → (models k).committed ≡ seq w (models k).position) (ends : (k : ℕ) → EndsByStep (models k) (models (suc k))) (far : ℕ) where
  -- an end is not past where it was to come
  ends_early : (k : ℕ) → IsFirstStop models far k → is_over (models k).committed ≡ true → (models k).position ≤ far
  ends_early zero stop over = absurd (true≢false (sym over ∙ runs))
  ends_early (suc k) stop over =
      let not_yet = or_false (is_over (models k).committed) (nat_le far (models k).position) (stop.first k (omega arith)) in
      let less = leb-false far (models k).position not_yet.1 in
      not_past_far not_yet.0 less (ends k)
    where
      not_past_far : is_over (models k).committed ≡ false → (models k).position < far → EndsByStep (models k) (models (suc k)) → (models (suc k)).position ≤ far
      not_past_far going less (inl same) = absurd (true≢false (sym over ∙ ap is_end same ∙ going))
      not_past_far going less (inr one) = omega (arith, less, one)

  pub stops_so : (k : ℕ) → IsFirstStop models far k → StopsAt w models far k
  stops_so k stop =
      record {
        is_seq = is;
        ended = λ over. is ∙ sym (over_same w known m.position far (ends_early k stop over) (sym (ap is_over is) ∙ over));
        went_on = λ going. goes going (is_over (seq w far)) refl;
      }
    where
      m : Model
      m = models k

      is : m.committed ≡ seq w m.position
      is = is_run k

      far_enough : is_over m.committed ≡ false → far ≤ m.position
      far_enough going = ⊎_elim (λ (x : is_over m.committed ≡ true). absurd (true≢false (sym x ∙ going))) (λ (x : nat_le far m.position ≡ true). leb-true far m.position x)
          (or_cases (is_over m.committed) (nat_le far m.position) stop.there)

      goes : is_over m.committed ≡ false → (b : Bool) → is_over (seq w far) ≡ b → b ≡ false
      goes going false e = refl
      goes going true e = absurd (true≢false (sym e ∙ sym (ap is_over (over_same w known far m.position (far_enough going) e)) ∙ sym (ap is_over is) ∙ going))

begins : (w : World) (event : ℕ → Event) → is_over w.start ≡ false → is_over (after w event 0).committed ≡ false
unfolding after
begins w event runs = runs

pub stops : (w : World) → IsWorld w → is_over w.start ≡ false → (event : ℕ → Event) (far k : ℕ) → IsFirstStop (after w event) far k → StopsAt w (after w event) far k
stops w known runs event far k stop =
    stops_so w known (after w event) (begins w event runs) (λ j. (holds w known event j).is_seq) (λ j. step_ends w known event j) far k stop
