-- What fails at a position of a run, by the tests there.
use Rattle.std.proofs.Common.{◌≡◌, ◌⊎◌, inl, inr, ℕ, zero, suc, ◌+◌, ◌*◌, ◌^◌, ◌<◌, Bool, true, false, cond, List, [], ◌∷◌, map, length, get_or, Option, Some, None, refl, sym, ap, ◌∙◌, subst, ⊎_elim, true≢false, arith}
use Rattle.std.specs.Prelude.{slice_get}
use Rattle.std.proofs.lemmas.Option.{get_or_from_slice_get, slice_get_within}
use Rattle.cells.specs.Run.{State, is_over}
use Rattle.dist_image.specs.Image.{Premise, Cut, Targets, Dead, Code, Within, Span, Same, Distilled, IsImage, IsPremise, key_of}
use Rattle.dist_image.proofs.Search.{rising}
use Rattle.fitting.specs.Fails.{state_at, Fails, Meets, IsBroken}
use Rattle.assumption_laws.specs.Looks.{look_at, fails_by, first_from, first_failing, span_fails}
use Rattle.assumption_laws.specs.Laws.{PassesBefore, VerdictIsTold}
use Rattle.assumption_laws.proofs.Tests.{looks_tell}
use Rattle.assumption_laws.proofs.Spans.{span_is_told}

-- ---- the first of a list

some_is : {A : Type 0} (a b : A) → ◌≡◌ {A = Option A} (Some a) (Some b) → a ≡ b
some_is a b e = cc

none_passes : (test : Premise → Bool) (n : ℕ) (xs : List Premise) → first_from test n xs ≡ None → (j : ℕ) (x : Premise) → slice_get xs j ≡ Some x → test x ≡ false
none_passes test n [] e j x at = absurd (cc)
none_passes test n (y ∷ xs) e j x at = if_passing (test y) refl e j at (λ d i f. none_passes test (suc n) xs d i x f)
  where
    if_passing : (b : Bool) → test y ≡ b → cond b (Some n) (first_from test (suc n) xs) ≡ None → (j : ℕ) → slice_get (y ∷ xs) j ≡ Some x
        → (first_from test (suc n) xs ≡ None → (i : ℕ) → slice_get xs i ≡ Some x → test x ≡ false) → test x ≡ false
    if_passing true t e j at rest = absurd (cc)
    if_passing false t e zero at rest = ap test (sym (some_is y x at)) ∙ t
    if_passing false t e (suc j) at rest = rest e j at

-- entry d of the list passes, and none before it
record IsFirst (test : Premise → Bool) (xs : List Premise) (d : ℕ) : Type 0 where
  found : Premise
  there : slice_get xs d ≡ Some found
  passes : test found ≡ true
  before : (j : ℕ) (x : Premise) → j < d → slice_get xs j ≡ Some x → test x ≡ false

first_passes : (test : Premise → Bool) (n k : ℕ) (xs : List Premise) → first_from test n xs ≡ Some k → (d : ℕ) × (n + d ≡ k) × IsFirst test xs d
first_passes test n k [] e = absurd (cc)
first_passes test n k (y ∷ xs) e = if_passing (test y) refl e (first_passes test (suc n) k xs)
  where
    if_passing : (b : Bool) → test y ≡ b → cond b (Some n) (first_from test (suc n) xs) ≡ Some k
        → (first_from test (suc n) xs ≡ Some k → (d : ℕ) × (suc n + d ≡ k) × IsFirst test xs d) → (d : ℕ) × (n + d ≡ k) × IsFirst test (y ∷ xs) d
    if_passing true t e rest =
        let same : n ≡ k = some_is n k e in
        (0, omega (arith, same), record { found = y; there = refl; passes = t; before = λ j x l at. absurd (omega (arith, l)) })
    if_passing false t e rest =
        let r = rest e in
        let next = r.1 in (
          suc r.0,
          omega (arith, next),
          record { found = r.2.found; there = r.2.there; passes = r.2.passes; before = earlier r.0 r.2.before },
        )
      where
        earlier : (d : ℕ) → ((j : ℕ) (x : Premise) → j < d → slice_get xs j ≡ Some x → test x ≡ false) → (j : ℕ) (x : Premise) → j < suc d → slice_get (y ∷ xs) j ≡ Some x → test x ≡ false
        earlier d before zero x l at = ap test (sym (some_is y x at)) ∙ t
        earlier d before (suc j) x l at = before j x (omega (arith, l)) at

-- ---- Span is listed last

mapped_at : (f : Premise → ℕ) (xs : List Premise) (k : ℕ) (x : Premise) → slice_get xs k ≡ Some x → get_or (map f xs) k 0 ≡ f x
mapped_at f [] k x at = absurd (cc)
mapped_at f (y ∷ xs) zero x at = ap f (some_is y x at)
mapped_at f (y ∷ xs) (suc k) x at = mapped_at f xs k x at

mapped_length : (f : Premise → ℕ) (xs : List Premise) → length (map f xs) ≡ length xs
mapped_length f [] = refl
mapped_length f (x ∷ xs) = let l = mapped_length f xs in omega (arith, l)

-- only Span is Span
abbrev is_span : Premise → Bool
is_span Span = true
is_span _ = false

module _ (start : State) (image : Distilled) (valid : IsImage image) where
  is_premise : (k : ℕ) (x : Premise) → slice_get image.assumptions k ≡ Some x → IsPremise x
  is_premise k x at = subst IsPremise (get_or_from_slice_get image.assumptions k x x at) (valid.assumptions k x (slice_get_within image.assumptions k x at))

  -- ---- one position

  module _ (i : ℕ) (going : is_over (state_at start i) ≡ false) where
    fails_or_late : (x : Premise) → Fails start image x i → (fails_by (look_at start image i) x ≡ true) ⊎ ((x ≡ Span) × (span_fails start image i ≡ true))
    fails_or_late (Cut at taken) f = inl ((looks_tell start image i (Cut at taken) (λ e. true≢false (sym (ap is_span e)))).0 f)
    fails_or_late (Targets at to) f = inl ((looks_tell start image i (Targets at to) (λ e. true≢false (sym (ap is_span e)))).0 f)
    fails_or_late (Dead at) f = inl ((looks_tell start image i (Dead at) (λ e. true≢false (sym (ap is_span e)))).0 f)
    fails_or_late Code f = inl ((looks_tell start image i Code (λ e. true≢false (sym (ap is_span e)))).0 f)
    fails_or_late Within f = inl ((looks_tell start image i Within (λ e. true≢false (sym (ap is_span e)))).0 f)
    fails_or_late (Same at value) f = inl ((looks_tell start image i (Same at value) (λ e. true≢false (sym (ap is_span e)))).0 f)
    fails_or_late Span f = inr (refl, (span_is_told start image valid i going).0 f)

    not_span : (x : Premise) → fails_by (look_at start image i) x ≡ true → x ≡ Span → ⊥
    not_span x f e = true≢false (sym f ∙ ap (fails_by (look_at start image i)) e)

  meets : (n : ℕ) → PassesBefore start image n → Meets start image n
  meets n p i l going k x at f = ⊎_elim
      (λ (e : fails_by (look_at start image i) x ≡ true). true≢false (sym e ∙ none_passes (fails_by (look_at start image i)) 0 image.assumptions (p.looks i l going) k x at))
      (λ (e : (x ≡ Span) × (span_fails start image i ≡ true)). true≢false (sym e.1 ∙ p.spans (k, at ∙ ap Some e.0) i l going))
      (fails_or_late i going x f)

  broken : (i k : ℕ) → PassesBefore start image i → is_over (state_at start i) ≡ false → first_failing start image i ≡ Some k
      → ((j : ℕ) → j < k → slice_get image.assumptions j ≡ Some Span → span_fails start image i ≡ false) → IsBroken start image i k
  broken i k p going e in_time =
      let r = first_passes (fails_by (look_at start image i)) 0 k image.assumptions e in
      let same : r.0 ≡ k = (let s = r.1 in omega (arith, s)) in
      let first : IsFirst (fails_by (look_at start image i)) image.assumptions k = subst (IsFirst (fails_by (look_at start image i)) image.assumptions) same r.2 in
      let other : first.found ≡ Span → ⊥ = not_span i going first.found first.passes in
      record {
        met = meets i p;
        going = going;
        fails = (first.found, first.there, (looks_tell start image i first.found other).1 first.passes);
        first = λ j x l at f. ⊎_elim
            (λ (t : fails_by (look_at start image i) x ≡ true). true≢false (sym t ∙ first.before j x l at))
            (λ (t : (x ≡ Span) × (span_fails start image i ≡ true)). true≢false (sym t.1 ∙ in_time j l (at ∙ ap Some t.0)))
            (fails_or_late i going x f);
      }

  late : (i k : ℕ) → PassesBefore start image i → is_over (state_at start i) ≡ false → ((j : ℕ) → first_failing start image i ≡ Some j → k < j) → span_fails start image i ≡ true
      → slice_get image.assumptions k ≡ Some Span → IsBroken start image i k
  late i k p going none fails at = record {
    met = meets i p;
    going = going;
    fails = (Span, at, (span_is_told start image valid i going).1 fails);
    first = λ j x l there f. ⊎_elim
        (λ (t : fails_by (look_at start image i) x ≡ true). true≢false (sym t ∙ earlier j x l there (first_failing start image i) refl))
        (λ (t : (x ≡ Span) × (span_fails start image i ≡ true)). once j k (there ∙ ap Some t.0) at l)
        (fails_or_late i going x f);
  }
    where
      -- the first that fails by its test is behind
      earlier : (j : ℕ) (x : Premise) → j < k → slice_get image.assumptions j ≡ Some x → (o : Option ℕ) → first_failing start image i ≡ o → fails_by (look_at start image i) x ≡ false
      earlier j x l there None e = none_passes (fails_by (look_at start image i)) 0 image.assumptions e j x there
      earlier j x l there (Some m) e =
          let r = first_passes (fails_by (look_at start image i)) 0 m image.assumptions e in
          let is : r.0 ≡ m = (let s = r.1 in omega (arith, s)) in
          let behind : k < m = none m e in
          r.2.before j x (omega (arith, l, is, behind)) there

      once : (j k : ℕ) → slice_get image.assumptions j ≡ Some Span → slice_get image.assumptions k ≡ Some Span → j < k → ⊥
      once j k a b l =
          let low : get_or (map key_of image.assumptions) j 0 ≡ 5 * 2 ^ 32 = mapped_at key_of image.assumptions j Span a in
          let high : get_or (map key_of image.assumptions) k 0 ≡ 5 * 2 ^ 32 = mapped_at key_of image.assumptions k Span b in
          let same = mapped_length key_of image.assumptions in
          let within = slice_get_within image.assumptions k Span b in
          let rise = rising (map key_of image.assumptions) valid.assumptions_rise j k l (omega (arith, same, within)) in
          omega (arith, high, low, rise)

pub verdict_is_told : (start : State) (image : Distilled) → IsImage image → VerdictIsTold start image
verdict_is_told start image valid = record {
  met = λ n p. meets start image valid n p;
  broken = λ i k p going e in_time. broken start image valid i k p going e in_time;
  late = λ i k p going none fails at. late start image valid i k p going none fails at;
}
