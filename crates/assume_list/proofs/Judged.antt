-- The verdict, by what the pass and the wait came to.
use Rattle.std.proofs.Common.{◌≡◌, ◌⊎◌, inl, inr, ℕ, zero, suc, ◌+◌, ◌-◌, ◌<◌, ◌≤◌, min, Bool, true, false, cond, List, [], ◌∷◌, Option, Some, None, unwrap_or, refl, sym, ap, ◌∙◌, subst, ⊎_elim, true≢false, arith}
use Rattle.std.specs.Prelude.{slice_get, nat_lt}
use Rattle.std.proofs.lemmas.Bool.{cases_eq, cases_lt, lt-ltb, ltb-true}
use Rattle.cells.specs.Run.{State, is_over}
use Rattle.dist_image.specs.Image.{Premise, Cut, Targets, Dead, Code, Within, Span, Same, Distilled, IsImage}
use Rattle.fitting.specs.Fits.{IsListed}
use Rattle.fitting.specs.Fails.{state_at, Meets, IsBroken}
use Rattle.assumption_laws.specs.declared.Waiting.{Waiting}
use Rattle.assumption_laws.specs.Looks.{first_from, first_failing}
use Rattle.assumption_laws.proofs.Spans.{going_before}
use Rattle.assumption_laws.proofs.Verdicts.{verdict_is_told}
use Rattle.assume_list.specs.declared.verdict.Verdict.TheVariants.{Met, Broken}
use Rattle.assume_list.specs.Passes.{is_span, asked_below, bound_of, or_late, IsReached, IsClean, IsLate, IsFailed, IsThrough, IsAwaited}
use Rattle.assume_list.specs.Verdicts.{IsLesser, IsVerdict, VerdictIsOne}
use Rattle.assume_list.proofs.Turns.{clean_less}

-- ---- where Span is listed

number_is : (a b : ℕ) → ◌≡◌ {A = Option ℕ} (Some a) (Some b) → a ≡ b
number_is a b e = cc

premise_is : (x y : Premise) → ◌≡◌ {A = Option Premise} (Some x) (Some y) → x ≡ y
premise_is x y e = cc

span_is : (x : Premise) → is_span x ≡ true → x ≡ Span
span_is (Cut at taken) h = absurd (true≢false (sym h))
span_is (Targets at to) h = absurd (true≢false (sym h))
span_is (Dead at) h = absurd (true≢false (sym h))
span_is Code h = absurd (true≢false (sym h))
span_is Within h = absurd (true≢false (sym h))
span_is Span h = refl
span_is (Same at value) h = absurd (true≢false (sym h))

-- the number of the first that is Span is that of one that is
span_there : (n k : ℕ) (xs : List Premise) → first_from is_span n xs ≡ Some k → (d : ℕ) × (n + d ≡ k) × (slice_get xs d ≡ Some Span)
span_there n k [] e = absurd (cc)
span_there n k (x ∷ xs) e = if_span (is_span x) refl e (span_there (suc n) k xs)
  where
    if_span : (b : Bool) → is_span x ≡ b → cond b (Some n) (first_from is_span (suc n) xs) ≡ Some k
        → (first_from is_span (suc n) xs ≡ Some k → (d : ℕ) × (suc n + d ≡ k) × (slice_get xs d ≡ Some Span)) → (d : ℕ) × (n + d ≡ k) × (slice_get (x ∷ xs) d ≡ Some Span)
    if_span true t e rest = let same : n ≡ k = number_is n k e in (0, omega (arith, same), ap Some (span_is x t))
    if_span false t e rest = let r = rest e in let next = r.1 in (suc r.0, omega (arith, next), r.2)

span_nowhere : (n : ℕ) (xs : List Premise) → first_from is_span n xs ≡ None → (d : ℕ) → slice_get xs d ≡ Some Span → ⊥
span_nowhere n [] e d at = absurd (cc)
span_nowhere n (x ∷ xs) e d at = if_span (is_span x) refl e d at (λ h i f. span_nowhere (suc n) xs h i f)
  where
    if_span : (b : Bool) → is_span x ≡ b → cond b (Some n) (first_from is_span (suc n) xs) ≡ None → (d : ℕ) → slice_get (x ∷ xs) d ≡ Some Span
        → (first_from is_span (suc n) xs ≡ None → (i : ℕ) → slice_get xs i ≡ Some Span → ⊥) → ⊥
    if_span true t e d at rest = absurd (cc)
    if_span false t e zero at rest = true≢false (ap is_span (sym (premise_is x Span at)) ∙ t)
    if_span false t e (suc d) at rest = rest e d at

-- and no one before it is Span
span_first : (n k d : ℕ) (xs : List Premise) → first_from is_span n xs ≡ Some k → slice_get xs d ≡ Some Span → k ≤ n + d
span_first n k d [] e at = absurd (cc)
span_first n k d (x ∷ xs) e at = if_span (is_span x) refl e d at (λ h i f. span_first (suc n) k i xs h f)
  where
    if_span : (b : Bool) → is_span x ≡ b → cond b (Some n) (first_from is_span (suc n) xs) ≡ Some k → (d : ℕ) → slice_get (x ∷ xs) d ≡ Some Span
        → (first_from is_span (suc n) xs ≡ Some k → (i : ℕ) → slice_get xs i ≡ Some Span → k ≤ suc n + i) → k ≤ n + d
    if_span true t e d at rest = let same : n ≡ k = number_is n k e in omega (arith, same)
    if_span false t e zero at rest = absurd (true≢false (ap is_span (sym (premise_is x Span at)) ∙ t))
    if_span false t e (suc d) at rest = let r = rest e d at in omega (arith, r)

-- Span is told of below this bound: below the budget where it is listed, at this number first, and else nowhere
pub record IsBound (image : Distilled) (budget bound span : ℕ) : Type 0 where
  pub below : bound ≤ budget
  pub listed : IsListed image.assumptions Span → bound ≡ budget
  pub there : (i : ℕ) → i < bound → slice_get image.assumptions span ≡ Some Span
  pub first : (k : ℕ) → slice_get image.assumptions k ≡ Some Span → span ≤ k

pub told_bound : (image : Distilled) (budget : ℕ) (span : Option ℕ) → span ≡ first_from is_span 0 image.assumptions → IsBound image budget (bound_of span budget) (unwrap_or span 0)
told_bound image budget (Some k) e =
    let s = span_there 0 k image.assumptions (sym e) in
    let place = s.1 in
    let same : s.0 ≡ k = omega (arith, place) in
    record {
      below = omega arith;
      listed = λ _. refl;
      there = λ i l. subst (λ n. slice_get image.assumptions n ≡ Some Span) same s.2;
      first = λ d at. let low = span_first 0 k d image.assumptions (sym e) at in omega (arith, low);
    }
told_bound image budget None e = record {
  below = omega arith;
  listed = λ l. absurd (span_nowhere 0 image.assumptions (sym e) l.0 l.1);
  there = λ i l. absurd (omega (arith, l));
  first = λ k at. omega arith;
}

-- Span is asked about at a position itself only where it is listed before the first other that fails there
asked_here : (k span position i : ℕ) → i < asked_below k span position → (i < position) ⊎ ((i ≡ position) × (span < k))
asked_here k span position i l = if_asked (nat_lt span k) refl l
  where
    if_asked : (b : Bool) → nat_lt span k ≡ b → i < cond b (position + 1) position → (i < position) ⊎ ((i ≡ position) × (span < k))
    if_asked true e l = ⊎_elim (λ (s : i ≡ position). inr (s, ltb-true span k e)) (λ (ne : i ≡ position → ⊥). inl (omega (arith, l, ne))) (cases_eq i position)
    if_asked false e l = inl l

asked_all : (k span position : ℕ) → position ≤ asked_below k span position
asked_all k span position = if_asked (nat_lt span k)
  where
    if_asked : (b : Bool) → position ≤ cond b (position + 1) position
    if_asked true = omega arith
    if_asked false = omega arith

asked_too : (k span position : ℕ) → span < k → position < asked_below k span position
asked_too k span position l = subst (λ b. position < cond b (position + 1) position) (sym (lt-ltb span k l)) (omega arith)

module _ (start : State) (image : Distilled) (valid : IsImage image) (budget bound span : ℕ) (told : IsBound image budget bound span) where
  -- Span fails, no other assumption before, and none there that is listed before
  late_broken : (i : ℕ) → IsLate start image bound i → IsClean start image i → ((k : ℕ) → first_failing start image i ≡ Some k → span < k) → IsVerdict start image budget (Broken i span)
  late_broken i l clean behind =
      let within = l.within in
      let low = told.below in (
        omega (arith, within, low),
        (verdict_is_told start image valid).late i span
            (record { looks = clean; spans = λ listed h b going. l.first h b })
            l.going
            behind
            l.fails
            (told.there i l.within),
      )

  none_there : (o : Option ℕ) (k : ℕ) → o ≡ None → o ≡ Some k → span < k
  none_there o k none some = absurd (cc)

  -- and no other assumption there either
  late_alone : (i : ℕ) → IsLate start image bound i → IsClean start image (suc i) → IsVerdict start image budget (Broken i span)
  late_alone i l clean = late_broken i l (clean_less start image i (suc i) (omega arith) clean) (λ k some. none_there (first_failing start image i) k (clean i (omega arith) l.going) some)

  pub late_verdict : (i : ℕ) → IsLate start image bound i × IsClean start image (suc i) → IsVerdict start image budget (Broken i span)
  late_verdict i h = late_alone i h.0 h.1

  module _ (p : ℕ) (s : State) (ws : List Waiting) where
    -- another assumption fails
    pub failed_late : (k i : ℕ) (f : IsFailed start image budget bound span p s ws k) → IsLate start image (min bound (asked_below k span f.place)) i → IsVerdict start image budget (Broken i span)
    failed_late k i f l =
        let within = l.within in
        let late : IsLate start image bound i = record { within = omega (arith, within); going = l.going; fails = l.fails; first = l.first } in
        ⊎_elim
        (λ (before : i < f.place). late_alone i late (clean_less start image (suc i) f.place (omega (arith, before)) f.clean))
        (λ (here : (i ≡ f.place) × (span < k)). let place = here.0 in
        late_broken i late (clean_less start image i f.place (omega (arith, place)) f.clean)
        (λ j some. subst (λ n. span < n) (number_is k j (sym f.fails ∙ ap (first_failing start image) (sym here.0) ∙ some)) here.1))
        (asked_here k span f.place i (omega (arith, within)))

    pub failed_first : (k : ℕ) (f : IsFailed start image budget bound span p s ws k) → IsAwaited start image (min bound (asked_below k span f.place)) None → IsVerdict start image budget (Broken f.place k)
    failed_first k f none =
        let below = f.below in
        let low = asked_all k span f.place in (
          f.below,
          (verdict_is_told start image valid).broken f.place k
              (record {
                looks = f.clean;
                spans = λ listed i b going. let all = told.listed listed in none i (omega (arith, b, all, below, low)) going;
              })
              f.going f.fails
              (λ j before at.
              let all = told.listed (j, at) in
              let first = told.first j at in
              let too = asked_too k span f.place (omega (arith, first, before)) in
              none f.place (omega (arith, all, below, too)) f.going),
        )

    -- none fails
    before_end : (i : ℕ) (t : IsThrough start image budget bound p s ws) → i < bound → is_over (state_at start i) ≡ false → i < p
    before_end i t b going = ⊎_elim
        (λ (e : p ≡ budget). let low = told.below in omega (arith, e, b, low))
        (λ (over : is_over s ≡ true). elim (cases_lt i p) [
          | inl below ↦ below
          | inr above ↦ absurd (true≢false (sym (ap is_over (sym t.reached.state) ∙ over) ∙ going_before start p i (omega (arith, above)) going))
        ])
        t.stops

    pub through_late : (i : ℕ) → IsThrough start image budget bound p s ws → IsLate start image bound i → IsVerdict start image budget (Broken i span)
    through_late i t l = let before = before_end i t l.within l.going in late_alone i l (clean_less start image (suc i) p (omega (arith, before)) t.clean)

    pub through_met : IsThrough start image budget bound p s ws → IsAwaited start image bound None → IsVerdict start image budget (Met p)
    through_met t none =
        let within = t.within in (
          record {
            within = t.within;
            going = t.reached.searched.going;
            stops = ⊎_elim (λ (e : p ≡ budget). inl e) (λ (over : is_over s ≡ true). inr (ap is_over (sym t.reached.state) ∙ over)) t.stops;
          },
          (verdict_is_told start image valid).met p (record {
            looks = t.clean;
            spans = λ listed i b going. let all = told.listed listed in none i (omega (arith, b, all, within)) going;
          }),
        )

    failed_by : (late : Option ℕ) (k : ℕ) (f : IsFailed start image budget bound span p s ws k) → IsAwaited start image (min bound (asked_below k span f.place)) late
        → IsVerdict start image budget (or_late late span (Broken f.place k))
    failed_by None k f a = failed_first k f a
    failed_by (Some i) k f a = failed_late k i f a

    -- q is the position before p, and b the bound from there on
    pub failed_verdict : (late : Option ℕ) (k q b : ℕ) → IsFailed start image budget bound span p s ws k → q ≡ p - 1 → b ≡ min bound (asked_below k span q)
        → (IsReached start image b p s ws → IsAwaited start image b late) → IsVerdict start image budget (or_late late span (Broken q k))
    failed_verdict late k q b f q_is b_is a =
        let passed = f.passed in
        let place : q ≡ f.place = omega (arith, passed, q_is) in
        let same : b ≡ min bound (asked_below k span f.place) = b_is ∙ ap (λ n. min bound (asked_below k span n)) place in
        subst (λ n. IsVerdict start image budget (or_late late span (Broken n k))) (sym place)
        (failed_by late k f (subst (λ n. IsAwaited start image n late) same (a (subst (λ n. IsReached start image n p s ws) (sym same) f.reached))))

    pub through_verdict : (late : Option ℕ) → IsThrough start image budget bound p s ws → IsAwaited start image bound late → IsVerdict start image budget (or_late late span (Met p))
    through_verdict None t a = through_met t a
    through_verdict (Some i) t a = through_late i t a

-- ---- there is one verdict

module _ (start : State) (image : Distilled) (budget : ℕ) where
  lesser_below : (n m : ℕ) → IsLesser start budget n → IsLesser start budget m → n < m → ⊥
  lesser_below n m a b l = ⊎_elim
      (λ (e : n ≡ budget). let w = b.within in omega (arith, e, w, l))
      (λ (over : is_over (state_at start n) ≡ true). true≢false (sym over ∙ b.going n l))
      a.stops

  lesser_one : (n m : ℕ) → IsLesser start budget n → IsLesser start budget m → n ≡ m
  lesser_one n m a b = elim (cases_lt n m) [
    | inl below ↦ absurd (lesser_below n m a b below)
    | inr above ↦ ⊎_elim (λ (e : n ≡ m). e) (λ (ne : n ≡ m → ⊥). absurd (lesser_below m n b a (omega (arith, above, ne)))) (cases_eq n m)
  ]

  not_both : (n i k : ℕ) → IsLesser start budget n → Meets start image n → i < budget → IsBroken start image i k → ⊥
  not_both n i k a met below b =
      let before : i < n = ⊎_elim
      (λ (e : n ≡ budget). omega (arith, e, below))
      (λ (over : is_over (state_at start n) ≡ true). elim (cases_lt i n) [
        | inl low ↦ low
        | inr above ↦ absurd (true≢false (sym over ∙ going_before start n i (omega (arith, above)) b.going))
      ])
      a.stops in
      met i before b.going k b.fails.0 b.fails.1 b.fails.2

  first_one : (i j k l : ℕ) → IsBroken start image i k → IsBroken start image j l → i < j → ⊥
  first_one i j k l a b low = b.met i low a.going k a.fails.0 a.fails.1 a.fails.2

  number_one : (i k l : ℕ) → IsBroken start image i k → IsBroken start image i l → k < l → ⊥
  number_one i k l a b low = b.first k a.fails.0 low a.fails.1 a.fails.2

  broken_one : (i j k l : ℕ) → IsBroken start image i k → IsBroken start image j l → (i ≡ j) × (k ≡ l)
  broken_one i j k l a b =
      let same : i ≡ j = elim (cases_lt i j) [
        | inl below ↦ absurd (first_one i j k l a b below)
        | inr above ↦ ⊎_elim (λ (e : i ≡ j). e) (λ (ne : i ≡ j → ⊥). absurd (first_one j i l k b a (omega (arith, above, ne)))) (cases_eq i j)
      ] in
      let c : IsBroken start image i l = subst (λ n. IsBroken start image n l) (sym same) b in (
        same,
        elim (cases_lt k l) [
          | inl below ↦ absurd (number_one i k l a c below)
          | inr above ↦ ⊎_elim (λ (e : k ≡ l). e) (λ (ne : k ≡ l → ⊥). absurd (number_one i l k c a (omega (arith, above, ne)))) (cases_eq k l)
        ],
      )

pub verdict_is_one : VerdictIsOne
verdict_is_one start image budget (Met n) (Met m) a b = ap Met (lesser_one start image budget n m a.0 b.0)
verdict_is_one start image budget (Met n) (Broken i k) a b = absurd (not_both start image budget n i k a.0 a.1 b.0 b.1)
verdict_is_one start image budget (Broken i k) (Met n) a b = absurd (not_both start image budget n i k b.0 b.1 a.0 a.1)
verdict_is_one start image budget (Broken i k) (Broken j l) a b =
    let e = broken_one start image budget i j k l a.1 b.1 in ap (λ n. Broken n k) e.0 ∙ ap (Broken j) e.1
