-- A task comes to its end from a position exactly where it does so step by step.
use Rattle.std.proofs.Common.{◌≡◌, ◌↔◌, ◌⊎◌, inl, inr, ℕ, zero, suc, ◌+◌, ◌-◌, ◌<◌, ◌≤◌, Bool, true, false, ◌||◌, ◌&&◌, not, cond, Option, Some, None, refl, sym, ap, ◌∙◌, subst, ⊎_elim, true≢false, arith}
use Rattle.std.specs.Prelude.{nat_eq}
use Rattle.std.proofs.lemmas.Bool.{eq-eqb, and_from, or_cases, or_left, or_right, not-true, not_from_false, eqb-true, cases_eq, false_from_ne_true}
use Rattle.cells.specs.Run.{State, is_over, printed}
use Rattle.rv_semantics.specs.Machine.{machine}
use Rattle.rv_semantics.specs.Calls.{call}
use Rattle.std.specs.Prelude.{slice_get, length}
use Rattle.std.specs.Option.{option_map}
use Rattle.std.proofs.lemmas.Option.{get_or_from_slice_get, slice_get_within}
use Rattle.dist_image.specs.declared.image.Anchor.{Anchor}
use Rattle.dist_image.specs.Image.{Distilled, IsImage, IsAnchor, anchor_at}
use Rattle.image_semantics.specs.World.{task_machine, count_of, entry}
use Rattle.fitting.specs.Fits.{is_anchor_pc}
use Rattle.fitting.specs.Fails.{state_at, arch_at, pc_at, arrivals_after, IsArrival, IsStop, IsSpanned}
use Rattle.assumption_laws.specs.Looks.{comes, is_late}
use Rattle.assumption_laws.specs.Laws.{StepsTell, SpanIsTold}

some_same : (a b : ℕ) → ◌≡◌ {A = Option ℕ} (Some a) (Some b) → a ≡ b
some_same a b e = cc

module _ (start : State) where
  abbrev over : ℕ → Bool
  over k = is_over (state_at start k)

  over_next : (k : ℕ) → over k ≡ true → over (suc k) ≡ true
  over_next k h =
      let s = state_at start k in
      ap (λ b. is_over (cond b s (cond (machine.stops s.arch) (call s) (record { arch = machine.move s.arch; env = printed s.env (machine.says s.arch) })))) h ∙ h

  over_later : (k d : ℕ) → over k ≡ true → over (k + d) ≡ true
  over_later k zero h = let e : k ≡ k + 0 = omega arith in subst (λ n. over n ≡ true) e h
  over_later k (suc d) h = let e : suc (k + d) ≡ k + suc d = omega arith in subst (λ n. over n ≡ true) e (over_next (k + d) (over_later k d h))

  -- a position before one of the run is one of the run
  pub going_before : (k n : ℕ) → k ≤ n → over n ≡ false → over k ≡ false
  going_before k n le h =
      let e : k + (n - k) ≡ n = omega (arith, le) in
      false_from_ne_true (over k) (λ o. true≢false (sym (subst (λ m. over m ≡ true) e (over_later k (n - k) o)) ∙ h))

module _ (start : State) (image : Distilled) where
  abbrev pub is_anchor : ℕ → Bool
  is_anchor j = is_anchor_pc image (pc_at start j)

  abbrev pub stop_at : ℕ → Bool
  stop_at j = (task_machine image).stops (arch_at start j)

  -- by a step
  pub comes_on : (steps left j : ℕ) → over start (suc j) ≡ false
      → (is_anchor (suc j) ≡ true → (left ≡ 1 → ⊥) → comes start image steps (left - 1) (suc j) ≡ true)
      → (is_anchor (suc j) ≡ false → comes start image steps left (suc j) ≡ true)
      → comes start image (suc steps) left j ≡ true
  unfolding comes
  comes_on steps left j going there other = or_right (stop_at j) _ (and_from _ _ (not_from_false _ going) (if_anchor (is_anchor (suc j)) there other))
    where
      if_anchor : (b : Bool) → (b ≡ true → (left ≡ 1 → ⊥) → comes start image steps (left - 1) (suc j) ≡ true) → (b ≡ false → comes start image steps left (suc j) ≡ true)
          → cond b (nat_eq left 1 || comes start image steps (left - 1) (suc j)) (comes start image steps left (suc j)) ≡ true
      if_anchor true there other = ⊎_elim
          (λ (e : left ≡ 1). or_left (nat_eq left 1) _ (eq-eqb left 1 e))
          (λ (ne : left ≡ 1 → ⊥). or_right (nat_eq left 1) _ (there refl ne))
          (cases_eq left 1)
      if_anchor false there other = other refl

  pub comes_at_stop : (steps left j : ℕ) → stop_at j ≡ true → comes start image (suc steps) left j ≡ true
  unfolding comes
  comes_at_stop steps left j h = or_left (stop_at j) _ h

  comes_last : (steps left j : ℕ) → over start (suc j) ≡ false → is_anchor (suc j) ≡ true → left ≡ 1 → comes start image (suc steps) left j ≡ true
  comes_last steps left j going there last = comes_on steps left j going (λ h ne. absurd (ne last)) (λ h. absurd (true≢false (sym there ∙ h)))

  abbrev pub goes_on : Bool → ℕ → ℕ → ℕ → Bool
  goes_on b steps left j = cond b (nat_eq left 1 || comes start image steps (left - 1) j) (comes start image steps left j)

  comes_cases : (steps left j : ℕ) → comes start image (suc steps) left j ≡ true
      → (stop_at j ≡ true) ⊎ ((over start (suc j) ≡ false) × (goes_on (is_anchor (suc j)) steps left (suc j) ≡ true))
  unfolding comes
  comes_cases steps left j h = parts (stop_at j) (over start (suc j)) (goes_on (is_anchor (suc j)) steps left (suc j)) h
    where
      parts : (a b c : Bool) → (a || (not b && c)) ≡ true → (a ≡ true) ⊎ ((b ≡ false) × (c ≡ true))
      parts true b c e = inl refl
      parts false true c e = absurd (true≢false (sym e))
      parts false false c e = inr (refl, e)

  module _ (i count : ℕ) where
    abbrev arrived : ℕ → ℕ
    arrived t = arrivals_after start image i t

    arrived_at : (t : ℕ) → is_anchor (suc (i + t)) ≡ true → arrived (suc t) ≡ 1 + arrived t
    arrived_at t h = ap (λ b. cond b 1 0 + arrived t) h

    arrived_not : (t : ℕ) → is_anchor (suc (i + t)) ≡ false → arrived (suc t) ≡ arrived t
    arrived_not t h = ap (λ b. cond b 1 0 + arrived t) h ∙ none_more (arrived t)
      where
        none_more : (n : ℕ) → 0 + n ≡ n
        none_more n = omega arith

    next_is : (t : ℕ) → suc (i + t) ≡ i + suc t
    next_is t = omega arith

    at_next : (steps left t : ℕ) → comes start image steps left (i + suc t) ≡ true → comes start image steps left (suc (i + t)) ≡ true
    at_next steps left t h = subst (λ n. comes start image steps left n ≡ true) (sym (next_is t)) h

    to_arrival : (steps left t : ℕ) → t + steps ≡ image.limit → arrived t + left ≡ count → 1 ≤ left → (u : ℕ) → t < u → IsArrival start image i count u → comes start image steps left (i + t) ≡ true
    to_arrival zero left t all count_is some u after a = let near = a.near in absurd (omega (arith, all, after, near))
    to_arrival (suc steps) left t all count_is some u after a =
        let going : over start (suc (i + t)) ≡ false = going_before start (suc (i + t)) (i + u) (omega (arith, after)) a.going in
        let s : suc t + steps ≡ image.limit = omega (arith, all) in
        ⊎_elim
        (λ (e : u ≡ suc t).
        let same : i + u ≡ suc (i + t) = omega (arith, e) in
        let there : is_anchor (suc (i + t)) ≡ true = subst (λ n. is_anchor n ≡ true) same a.there in
        let number : arrived (suc t) ≡ count = subst (λ n. arrived n ≡ count) e a.number in
        let more = arrived_at t there in
        comes_last steps left (i + t) going there (omega (arith, number, more, count_is)))
        (λ (ne : u ≡ suc t → ⊥).
        let l : suc t < u = omega (arith, ne, after) in
        comes_on steps left (i + t) going
        (λ h not_last.
        let more = arrived_at t h in
        at_next steps (left - 1) t (to_arrival steps (left - 1) (suc t) s (omega (arith, more, count_is, some)) (omega (arith, not_last, some)) u l a))
        (λ h.
        let same = arrived_not t h in
        at_next steps left t (to_arrival steps left (suc t) s (omega (arith, same, count_is)) some u l a)))
        (cases_eq u (suc t))

    to_stop : (steps left t : ℕ) → t + steps ≡ image.limit → 1 ≤ left → (u : ℕ) → t ≤ u → IsStop start image i u → comes start image steps left (i + t) ≡ true
    to_stop zero left t all some u after a = let near = a.near in absurd (omega (arith, all, after, near))
    to_stop (suc steps) left t all some u after a =
        let s : suc t + steps ≡ image.limit = omega (arith, all) in
        ⊎_elim
        (λ (e : u ≡ t). comes_at_stop steps left (i + t) (subst (λ n. stop_at (i + n) ≡ true) e a.stops))
        (λ (ne : u ≡ t → ⊥).
        let l : suc t ≤ u = omega (arith, ne, after) in
        comes_on steps left (i + t) (going_before start (suc (i + t)) (i + u) (omega (arith, l)) a.going)
        (λ h not_last. at_next steps (left - 1) t (to_stop steps (left - 1) (suc t) s (omega (arith, not_last, some)) u l a))
        (λ h. at_next steps left t (to_stop steps left (suc t) s some u l a)))
        (cases_eq u t)

    from_next : (steps left t : ℕ) → comes start image steps left (suc (i + t)) ≡ true → comes start image steps left (i + suc t) ≡ true
    from_next steps left t h = subst (λ n. comes start image steps left n ≡ true) (next_is t) h

    spanned : (steps left t : ℕ) → t + steps ≡ image.limit → arrived t + left ≡ count → 1 ≤ left → over start (i + t) ≡ false → comes start image steps left (i + t) ≡ true → IsSpanned start image i count
    unfolding comes
    spanned zero left t all count_is some going h = absurd (true≢false (sym h))
    spanned (suc steps) left t all count_is some going h = ⊎_elim
        (λ (e : stop_at (i + t) ≡ true). inr (t, record { near = omega (arith, all); going = going; stops = e }))
        (λ (p : (over start (suc (i + t)) ≡ false) × (goes_on (is_anchor (suc (i + t))) steps left (suc (i + t)) ≡ true)).
        if_anchor (λ fewer number more goes c. spanned steps fewer (suc t) (omega (arith, all)) number more goes c) (is_anchor (suc (i + t))) refl p.0 p.1)
        (comes_cases steps left (i + t) h)
      where
        on : over start (suc (i + t)) ≡ false → over start (i + suc t) ≡ false
        on e = subst (λ n. over start n ≡ false) (next_is t) e

        if_anchor : ((fewer : ℕ) → arrived (suc t) + fewer ≡ count → 1 ≤ fewer → over start (i + suc t) ≡ false → comes start image steps fewer (i + suc t) ≡ true → IsSpanned start image i count)
            → (b : Bool) → is_anchor (suc (i + t)) ≡ b → over start (suc (i + t)) ≡ false
            → goes_on b steps left (suc (i + t)) ≡ true → IsSpanned start image i count
        if_anchor rest_of true there e f = ⊎_elim
            (λ (last : left ≡ 1).
            let more = arrived_at t there in
            inl (
              suc t,
              record {
                some = omega arith;
                near = omega (arith, all);
                going = on e;
                there = subst (λ n. is_anchor n ≡ true) (next_is t) there;
                number = omega (arith, more, count_is, last);
              },
            ))
            (λ (ne : left ≡ 1 → ⊥).
            let more = arrived_at t there in
            let rest = ⊎_elim (λ (one : nat_eq left 1 ≡ true). absurd (ne (eqb-true left 1 one))) (λ (c : comes start image steps (left - 1) (suc (i + t)) ≡ true). c) (or_cases (nat_eq left 1) _ f) in
            rest_of (left - 1) (omega (arith, more, count_is, some)) (omega (arith, ne, some)) (on e) (from_next steps (left - 1) t rest))
            (cases_eq left 1)
        if_anchor rest_of false there e f =
            let same = arrived_not t there in
            rest_of left (omega (arith, same, count_is)) some (on e) (from_next steps left t f)

  at_start : (i : ℕ) → i ≡ i + 0
  at_start i = omega arith

  pub told : (i count : ℕ) → over start i ≡ false → 1 ≤ count → IsSpanned start image i count ↔ (comes start image image.limit count i ≡ true)
  told i count going some = (
    λ h. subst (λ n. comes start image image.limit count n ≡ true) (sym (at_start i)) (to_end h),
    λ h. spanned i count image.limit count 0 (omega arith) (omega arith) some (subst (λ n. over start n ≡ false) (at_start i) going) (subst (λ n. comes start image image.limit count n ≡ true) (at_start i) h),
  )
    where
      to_end : IsSpanned start image i count → comes start image image.limit count (i + 0) ≡ true
      to_end h = ⊎_elim
          (λ (a : (t : ℕ) × IsArrival start image i count t). to_arrival i count image.limit count 0 (omega arith) (omega arith) some a.0 a.1.some a.1)
          (λ (a : (t : ℕ) × IsStop start image i t). to_stop i count image.limit count 0 (omega arith) some a.0 (omega arith) a.1)
          h

  span_told : (i : ℕ) → over start i ≡ false → (o : Option ℕ) → ((c : ℕ) → o ≡ Some c → 1 ≤ c) → ((count : ℕ) × (o ≡ Some count) × (IsSpanned start image i count → ⊥)) ↔ (is_late start image o i ≡ true)
  span_told i going None counts = (λ f. absurd (let e = f.1 in (cc)), λ e. absurd (true≢false (sym e)))
  span_told i going (Some c) counts = (
    λ f.
        let same : f.0 ≡ c = sym (some_same c f.0 f.1) in
        let none : IsSpanned start image i c → ⊥ = subst (λ n. IsSpanned start image i n → ⊥) same f.2 in
        not_from_false _ (false_from_ne_true _ (λ h. none ((told i c going (counts c refl)).1 h))),
    λ e. (c, refl, λ h. true≢false (sym ((told i c going (counts c refl)).0 h) ∙ not-true _ e)),
  )

pub steps_tell : StepsTell
steps_tell start image i count going some = told start image i count going some

-- anchors are counted from 1
pub counts_from_1 : (image : Distilled) → IsImage image → (o : Option ℕ) (c : ℕ) → option_map (λ (a : Anchor). a.count) (entry image.anchors o) ≡ Some c → 1 ≤ c
counts_from_1 image valid None c e = absurd (cc)
counts_from_1 image valid (Some k) c e = if_listed (slice_get image.anchors k) refl e
  where
    if_listed : (a : Option Anchor) → slice_get image.anchors k ≡ a → option_map (λ (a : Anchor). a.count) a ≡ Some c → 1 ≤ c
    if_listed None h e = absurd (cc)
    if_listed (Some a) h e =
        let l : k < length image.anchors = slice_get_within image.anchors k a h in
        let p : IsAnchor (length image.slots) a = subst (IsAnchor (length image.slots)) (get_or_from_slice_get image.anchors k a a h) (valid.anchors k a l) in
        subst (λ n. 1 ≤ n) (some_same a.count c e) p.2

pub span_is_told : SpanIsTold
span_is_told start image valid i going = span_told start image i going (count_of image (pc_at start i)) (λ c e. counts_from_1 image valid (anchor_at image (pc_at start i)) c e)
