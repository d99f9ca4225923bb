-- How the anchors that wait go on with the run, and what they tell.
use Rattle.std.proofs.Common.{◌≡◌, ◌⊎◌, inl, inr, ℕ, zero, suc, ◌+◌, ◌<◌, ◌≤◌, min, Bool, true, false, not, ◌&&◌, ◌||◌, cond, List, [], ◌∷◌, ◌++◌, length, Option, Some, None, refl, sym, ap, ◌∙◌, subst, ⊎_elim, true≢false, arith}
use Rattle.std.specs.Prelude.{nat_eq, nat_lt}
use Rattle.std.proofs.lemmas.Bool.{eqb-true, lt-ltb, ltb-true, le-ltb, or_cases, and_parts, not-true, cases_eq, cases_lt}
use Rattle.cells.specs.declared.End.{End}
use Rattle.cells.specs.Run.{State, is_over, is_end}
use Rattle.rv_semantics.specs.Calls.{step}
use Rattle.dist_image.specs.Image.{Distilled, IsImage}
use Rattle.image_semantics.specs.World.{task_machine, count_of}
use Rattle.fitting.specs.Fits.{is_anchor_pc}
use Rattle.fitting.specs.Fails.{state_at, arch_at, pc_at}
use Rattle.assumption_laws.specs.declared.Waiting.{Waiting}
use Rattle.assumption_laws.specs.Looks.{first_failing, span_fails}
use Rattle.assumption_laws.specs.Waits.{passed_on, joined, is_overdue, waiting, at_hand, overdue}
use Rattle.assumption_laws.specs.Laws.{IsSearched}
use Rattle.assumption_laws.proofs.Spans.{going_before}
use Rattle.assumption_laws.proofs.Waits.{waits_tell}
use Rattle.assume_list.specs.Passes.{HasTurned, asked_below, bound_after, IsReached, IsClean, IsLate, IsFailed, IsAwaited, IsAwake}

pub overdue_near : (limit j : ℕ) (ws : List Waiting) → is_overdue limit j ws ≡ true → limit ≤ j
overdue_near limit j [] h = absurd (true≢false (sym h))
overdue_near limit j (w ∷ ws) h = ⊎_elim
    (λ (e : nat_eq (w.since + limit) j ≡ true). let s = eqb-true (w.since + limit) j e in omega (arith, s))
    (λ (e : is_overdue limit j ws ≡ true). overdue_near limit j ws e)
    (or_cases (nat_eq (w.since + limit) j) (is_overdue limit j ws) h)

some_is : (a b : ℕ) → ◌≡◌ {A = Option ℕ} (Some a) (Some b) → a ≡ b
some_is a b e = cc

joined_low : (b c j : ℕ) (o : Option ℕ) (ws : List Waiting) → j < b → b ≤ c → joined b j o ws ≡ joined c j o ws
joined_low b c j None ws l m = refl
joined_low b c j (Some count) ws l m =
    ap (λ t. cond t (ws ++ record { since = j; left = count } ∷ []) ws) (lt-ltb j b l ∙ sym (lt-ltb j c (omega (arith, l, m))))

-- ---- whether the run goes on

pub goes : (o : Option End) (p last : ℕ) (r : Bool) → r ≡ (not (is_end o) && nat_lt p last) → r ≡ true → (is_end o ≡ false) × (p < last)
goes o p last r e h = let q = and_parts (not (is_end o)) (nat_lt p last) (sym e ∙ h) in (not-true _ q.0, ltb-true p last q.1)

pub goes_not : (o : Option End) (p last : ℕ) (r : Bool) → r ≡ (not (is_end o) && nat_lt p last) → r ≡ false → (is_end o ≡ true) ⊎ (last ≤ p)
goes_not None p last r e h = elim (cases_lt p last) [
  | inl below ↦ absurd (true≢false (sym (lt-ltb p last below) ∙ sym e ∙ h))
  | inr above ↦ inr above
]
goes_not (Some end) p last r e h = inl refl

-- the wait goes on where an anchor waits or may come
pub wakes : (o : Option End) (p bound last : ℕ) (ws : List Waiting) (r : Bool) → r ≡ (not (is_end o) && (nat_lt p last && (nat_lt p bound || nat_lt 0 (length ws)))) → r ≡ true
    → (is_end o ≡ false) × ((p < last) × (bound ≤ p → ws ≡ [] → ⊥))
wakes o p bound last ws r e h =
    let q = and_parts (not (is_end o)) (nat_lt p last && (nat_lt p bound || nat_lt 0 (length ws))) (sym e ∙ h) in
    let t = and_parts (nat_lt p last) (nat_lt p bound || nat_lt 0 (length ws)) q.1 in
    (not-true _ q.0, (ltb-true p last t.0, λ past none. true≢false (sym t.1 ∙ (λ i. (le-ltb p bound past) i || nat_lt 0 (length (none i))))))

pub wakes_not : (o : Option End) (p bound last : ℕ) (ws : List Waiting) (r : Bool) → r ≡ (not (is_end o) && (nat_lt p last && (nat_lt p bound || nat_lt 0 (length ws)))) → r ≡ false
    → (is_end o ≡ true) ⊎ ((last ≤ p) ⊎ ((bound ≤ p) × (ws ≡ [])))
wakes_not (Some end) p bound last ws r e h = inl refl
wakes_not None p bound last ws r e h = inr (elim (cases_lt p last) [
  | inr far ↦ inl far
  | inl near ↦ inr (elim (cases_lt p bound) [
    | inl below ↦ absurd (true≢false (sym (λ i. (lt-ltb p last near) i && ((lt-ltb p bound below) i || nat_lt 0 (length ws))) ∙ sym e ∙ h))
    | inr past ↦ (past, nobody ws (sym (λ i. (lt-ltb p last near) i && ((le-ltb p bound past) i || nat_lt 0 (length ws))) ∙ sym e ∙ h))
  ])
])
  where
    nobody : (ws : List Waiting) → nat_lt 0 (length ws) ≡ false → ws ≡ []
    nobody [] n = refl
    nobody (w ∷ ws) n = absurd (true≢false (sym (lt-ltb 0 (suc (length ws)) (omega arith)) ∙ n))

module _ (start : State) (image : Distilled) where
  -- ---- two bounds

  hand_low : (b c j : ℕ) → j < b → b ≤ c → waiting start image b j ≡ waiting start image c j → at_hand start image b j ≡ at_hand start image c j
  hand_low b c j l m e =
      joined_low b c j (count_of image (pc_at start j)) (waiting start image b j) l m ∙ ap (joined c j (count_of image (pc_at start j))) e

  -- up to the lower bound the anchors that wait are the same
  waits_low : (b c j : ℕ) → j ≤ b → b ≤ c → waiting start image b j ≡ waiting start image c j
  unfolding waiting
  waits_low b c zero l m = refl
  waits_low b c (suc j) l m =
      ap (passed_on ((task_machine image).stops (arch_at start j)) (is_anchor_pc image (pc_at start (suc j)))) (hand_low b c j (omega (arith, l)) m (waits_low b c j (omega (arith, l)) m))

  reached_low : (b c j : ℕ) (s : State) (ws : List Waiting) → j ≤ b → b ≤ c → IsReached start image c j s ws → IsReached start image b j s ws
  reached_low b c j s ws l m r = record {
    state = r.state;
    list = r.list ∙ sym (waits_low b c j l m);
    searched = record {
      going = r.searched.going;
      none = λ k below.
          ap (is_overdue image.limit k) (hand_low b c k (omega (arith, below, l)) m (waits_low b c k (omega (arith, below, l)) m)) ∙ r.searched.none k below;
    };
  }

  -- or to a position that is not before
  reached_min : (bound at j : ℕ) (s : State) (ws : List Waiting) → j ≤ at → IsReached start image bound j s ws → IsReached start image (min bound at) j s ws
  reached_min bound at j s ws l r = elim (cases_lt at bound) [
    | inl below ↦ let e : min bound at ≡ at = omega (arith, below) in reached_low (min bound at) bound j s ws (omega (arith, e, l)) (omega (arith, e, below)) r
    | inr above ↦ let e : min bound at ≡ bound = omega (arith, above) in subst (λ b. IsReached start image b j s ws) (sym e) r
  ]

  pub not_before : (k span j : ℕ) → j ≤ asked_below k span j
  not_before k span j = if_asked (nat_lt span k)
    where
      if_asked : (b : Bool) → j ≤ cond b (j + 1) j
      if_asked true = omega arith
      if_asked false = omega arith

  pub reached_after : (first : Option ℕ) (span bound j : ℕ) (s : State) (ws : List Waiting) → IsReached start image bound j s ws → IsReached start image (bound_after first span bound j) j s ws
  reached_after None span bound j s ws r = r
  reached_after (Some k) span bound j s ws r = reached_min bound (asked_below k span j) j s ws (not_before k span j) r

  pub late_after : (first : Option ℕ) (span bound j i : ℕ) → IsLate start image (bound_after first span bound j) i → IsLate start image bound i
  late_after None span bound j i l = l
  late_after (Some k) span bound j i l = record { within = (let b = l.within in omega (arith, b)); going = l.going; fails = l.fails; first = l.first }

  -- ---- one turn

  hand_is : (bound j : ℕ) (s : State) (old : List Waiting) → IsReached start image bound j s old → joined bound j (count_of image s.arch.pc) old ≡ at_hand start image bound j
  hand_is bound j s old r = ap (λ (u : State). joined bound j (count_of image u.arch.pc) old) r.state ∙ ap (joined bound j (count_of image (pc_at start j))) r.list

  pub turned_late : IsImage image → (bound j i : ℕ) (s : State) (old new : List Waiting) (stops arrives : Bool) → IsReached start image bound j s old → is_over s ≡ false
      → HasTurned image.limit bound j (count_of image s.arch.pc) stops arrives old new (Some i) → IsLate start image bound i
  turned_late valid bound j i s old new stops arrives r going h =
      let here : is_over (state_at start j) ≡ false = ap is_over (sym r.state) ∙ going in
      let late : overdue start image bound j ≡ true = ap (is_overdue image.limit j) (sym (hand_is bound j s old r)) ∙ h.1 in
      let t = (waits_tell start image valid).late bound j r.searched here late in
      let place = h.0 in
      let told = t.1 in
      let same : t.0 ≡ i = omega (arith, place, told) in
      let long = valid.limit.0 in
      record {
        within = subst (λ n. n < bound) same t.2;
        going = r.searched.going i (omega (arith, place, long));
        fails = subst (λ n. span_fails start image n ≡ true) same t.3;
        first = λ g l. t.4 g (omega (arith, l, same));
      }

  next_waits : (bound j : ℕ) → waiting start image bound (suc j) ≡ passed_on ((task_machine image).stops (arch_at start j)) (is_anchor_pc image (pc_at start (suc j))) (at_hand start image bound j)
  unfolding waiting
  next_waits bound j = refl

  pub turned_on : (bound j k : ℕ) (s t : State) (old new : List Waiting) (stops : Bool) → IsReached start image bound j s old → is_over s ≡ false
      → t ≡ step s → k ≡ j + 1 → stops ≡ (task_machine image).stops s.arch
      → HasTurned image.limit bound j (count_of image s.arch.pc) stops (is_anchor_pc image t.arch.pc) old new None → IsReached start image bound k t new
  turned_on bound j k s t old new stops r going t_is k_is stops_are h =
      let place : k ≡ suc j = omega (arith, k_is) in
      let here : is_over (state_at start j) ≡ false = ap is_over (sym r.state) ∙ going in
      let there : t ≡ state_at start (suc j) = t_is ∙ ap step r.state in
      let none : overdue start image bound j ≡ false = ap (is_overdue image.limit j) (sym (hand_is bound j s old r)) ∙ h.0 in
      subst (λ n. IsReached start image bound n t new) (sym place) (record {
        state = there;
        list =
            h.1 ∙ ap (λ b. passed_on b (is_anchor_pc image t.arch.pc) (joined bound j (count_of image s.arch.pc) old)) (stops_are ∙ ap (λ (u : State). (task_machine image).stops u.arch) r.state)
            ∙ ap (λ (u : State). passed_on ((task_machine image).stops (arch_at start j)) (is_anchor_pc image u.arch.pc) (joined bound j (count_of image s.arch.pc) old)) there
            ∙ ap (passed_on ((task_machine image).stops (arch_at start j)) (is_anchor_pc image (pc_at start (suc j)))) (hand_is bound j s old r)
            ∙ sym (next_waits bound j);
        searched = record {
          going = λ i l. ⊎_elim (λ (e : i ≡ j). subst (λ n. is_over (state_at start n) ≡ false) (sym e) here) (λ (ne : i ≡ j → ⊥). r.searched.going i (omega (arith, l, ne))) (cases_eq i j);
          none = λ i l. ⊎_elim (λ (e : i ≡ j). subst (λ n. overdue start image bound n ≡ false) (sym e) none) (λ (ne : i ≡ j → ⊥). r.searched.none i (omega (arith, l, ne))) (cases_eq i j);
        };
      })

  -- ---- the end of the wait

  over_before : IsImage image → (bound p : ℕ) → IsSearched start image bound p → is_over (state_at start p) ≡ true → IsAwaited start image bound None
  over_before valid bound p searched over i b going = elim (cases_lt i p) [
    | inl below ↦ (waits_tell start image valid).ended bound p searched over i b below
    | inr above ↦ absurd (true≢false (sym over ∙ going_before start p i (omega (arith, above)) going))
  ]

  far_before : IsImage image → (bound p : ℕ) (o : Bool) → is_over (state_at start p) ≡ o → IsSearched start image bound p → bound + image.limit ≤ p → IsAwaited start image bound None
  far_before valid bound p true e searched far i b going = over_before valid bound p searched e i b going
  far_before valid bound p false e searched far i b going = (waits_tell start image valid).past bound p searched far e i b

  pub awaited : IsImage image → (bound p : ℕ) (s : State) (ws : List Waiting) → IsReached start image bound p s ws → (is_over s ≡ true) ⊎ (bound + image.limit ≤ p) → IsAwaited start image bound None
  awaited valid bound p s ws r done = ⊎_elim
      (λ (over : is_over s ≡ true). over_before valid bound p r.searched (ap is_over (sym r.state) ∙ over))
      (λ (far : bound + image.limit ≤ p). far_before valid bound p (is_over (state_at start p)) refl r.searched far)
      done

  -- ---- where none waits any more

  no_more_wait : (bound j : ℕ) → bound ≤ j → waiting start image bound j ≡ [] → waiting start image bound (suc j) ≡ []
  no_more_wait bound j past none =
      next_waits bound j
      ∙ ap (passed_on ((task_machine image).stops (arch_at start j)) (is_anchor_pc image (pc_at start (suc j)))) (stays (count_of image (pc_at start j)) ∙ none)
      ∙ empty ((task_machine image).stops (arch_at start j)) (is_anchor_pc image (pc_at start (suc j)))
    where
      stays : (o : Option ℕ) → joined bound j o (waiting start image bound j) ≡ waiting start image bound j
      stays None = refl
      stays (Some count) = ap (λ b. cond b (waiting start image bound j ++ record { since = j; left = count } ∷ []) (waiting start image bound j)) (le-ltb j bound past)

      empty : (stops arrives : Bool) → passed_on stops arrives [] ≡ []
      empty true arrives = refl
      empty false true = refl
      empty false false = refl

  none_overdue : (bound j : ℕ) → bound ≤ j → waiting start image bound j ≡ [] → overdue start image bound j ≡ false
  none_overdue bound j past none = ap (is_overdue image.limit j) (stays (count_of image (pc_at start j)) ∙ none)
    where
      stays : (o : Option ℕ) → joined bound j o (waiting start image bound j) ≡ waiting start image bound j
      stays None = refl
      stays (Some count) = ap (λ b. cond b (waiting start image bound j ++ record { since = j; left = count } ∷ []) (waiting start image bound j)) (le-ltb j bound past)

  none_later : IsImage image → (fuel bound p : ℕ) → bound + image.limit ≤ p + fuel → bound ≤ p → waiting start image bound p ≡ [] → IsSearched start image bound p → IsAwaited start image bound None
  none_later valid zero bound p far past none searched = far_before valid bound p (is_over (state_at start p)) refl searched (omega (arith, far))
  none_later valid (suc fuel) bound p far past none searched =
      if_over (is_over (state_at start p)) refl (λ e. none_later valid fuel bound (suc p) (omega (arith, far)) (omega (arith, past)) (no_more_wait bound p past none) (record {
        going = λ i l. ⊎_elim (λ (s : i ≡ p). subst (λ n. is_over (state_at start n) ≡ false) (sym s) e) (λ (ne : i ≡ p → ⊥). searched.going i (omega (arith, l, ne))) (cases_eq i p);
        none = λ i l. ⊎_elim (λ (s : i ≡ p). subst (λ n. overdue start image bound n ≡ false) (sym s) (none_overdue bound p past none)) (λ (ne : i ≡ p → ⊥). searched.none i (omega (arith, l, ne))) (cases_eq i p);
      }))
    where
      if_over : (o : Bool) → is_over (state_at start p) ≡ o → (is_over (state_at start p) ≡ false → IsAwaited start image bound None) → IsAwaited start image bound None
      if_over true e later = over_before valid bound p searched e
      if_over false e later = later e

  -- a step past the bound is taken while an anchor waits
  pub awake_on : (bound from j k : ℕ) (s : State) (ws : List Waiting) → IsReached start image bound j s ws → k ≡ j + 1 → (bound ≤ j → ws ≡ [] → ⊥)
      → IsAwake start image bound from j → IsAwake start image bound from k
  awake_on bound from j k s ws r k_is here before i low past l none = ⊎_elim
      (λ (e : i ≡ j). here (omega (arith, past, e)) (r.list ∙ ap (waiting start image bound) (sym e) ∙ none))
      (λ (ne : i ≡ j → ⊥). before i low past (omega (arith, l, k_is, ne)) none)
      (cases_eq i j)

  -- the run has ended, or gone a limit further, or no anchor waits any more
  pub awaited_early : IsImage image → (bound p : ℕ) (s : State) (ws : List Waiting) → IsReached start image bound p s ws
      → (is_over s ≡ true) ⊎ ((bound + image.limit ≤ p) ⊎ ((bound ≤ p) × (ws ≡ []))) → IsAwaited start image bound None
  awaited_early valid bound p s ws r done = ⊎_elim
      (λ (over : is_over s ≡ true). awaited valid bound p s ws r (inl over))
      (λ (other : (bound + image.limit ≤ p) ⊎ ((bound ≤ p) × (ws ≡ []))). ⊎_elim
      (λ (far : bound + image.limit ≤ p). awaited valid bound p s ws r (inr far))
      (λ (none : (bound ≤ p) × (ws ≡ [])). none_later valid (bound + image.limit) bound p (omega arith) none.0 (sym r.list ∙ none.1) r.searched)
      other)
      done

  -- ---- no other assumption fails

  pub clean_on : (j k : ℕ) → k ≡ j + 1 → IsClean start image j → first_failing start image j ≡ None → IsClean start image k
  clean_on j k k_is clean none i l going = ⊎_elim
      (λ (e : i ≡ j). ap (first_failing start image) e ∙ none)
      (λ (ne : i ≡ j → ⊥). clean i (omega (arith, l, ne, k_is)) going)
      (cases_eq i j)

  pub clean_less : (m n : ℕ) → m ≤ n → IsClean start image n → IsClean start image m
  clean_less m n l clean i below going = clean i (omega (arith, l, below)) going

  -- ---- a position that was looked at

  nothing_waits : (bound : ℕ) → waiting start image bound 0 ≡ []
  unfolding waiting
  nothing_waits bound = refl

  pub reached_first : (bound j : ℕ) (s : State) (ws : List Waiting) → j ≡ 0 → s ≡ start → ws ≡ [] → IsReached start image bound j s ws
  reached_first bound j s ws j_is s_is none = subst (λ n. IsReached start image bound n s ws) (sym j_is) (record {
    state = s_is;
    list = none ∙ sym (nothing_waits bound);
    searched = record { going = λ k l. absurd (omega (arith, l)); none = λ k l. absurd (omega (arith, l)) };
  })

  pub clean_first : (j : ℕ) → j ≡ 0 → IsClean start image j
  clean_first j j_is i l going = absurd (omega (arith, l, j_is))

  -- where Span turns out to fail
  pub passed_late : IsImage image → (first : Option ℕ) (span bound until j i : ℕ) (s : State) (old new : List Waiting) (stops arrives : Bool) → until ≡ bound_after first span bound j
      → IsReached start image bound j s old → IsClean start image j → is_over s ≡ false
      → HasTurned image.limit until j (count_of image s.arch.pc) stops arrives old new (Some i) → IsLate start image bound i × IsClean start image (suc i)
  passed_late valid first span bound until j i s old new stops arrives until_is r clean going h =
      let turned : HasTurned image.limit (bound_after first span bound j) j (count_of image s.arch.pc) stops arrives old new (Some i) =
      subst (λ b. HasTurned image.limit b j (count_of image s.arch.pc) stops arrives old new (Some i)) until_is h in
      let place = turned.0 in
      let long = valid.limit.0 in (
        late_after first span bound j i (turned_late valid (bound_after first span bound j) j i s old new stops arrives (reached_after first span bound j s old r) going turned),
        clean_less (suc i) j (omega (arith, place, long)) clean,
      )

  -- where another assumption fails
  pub passed_failed : (first : Option ℕ) (span budget bound until j p k : ℕ) (s t : State) (old new : List Waiting) (stops : Bool) → until ≡ bound_after first span bound j → first ≡ Some k
      → first ≡ first_failing start image j → IsReached start image bound j s old → IsClean start image j → is_over s ≡ false → j < budget
      → t ≡ step s → p ≡ j + 1 → stops ≡ (task_machine image).stops s.arch
      → HasTurned image.limit until j (count_of image s.arch.pc) stops (is_anchor_pc image t.arch.pc) old new None → IsFailed start image budget bound span p t new k
  passed_failed first span budget bound until j p k s t old new stops until_is first_is fails r clean going below t_is p_is stops_are h = record {
    place = j;
    passed = omega (arith, p_is);
    below = below;
    going = ap is_over (sym r.state) ∙ going;
    clean = clean;
    fails = sym fails ∙ first_is;
    reached = turned_on (min bound (asked_below k span j)) j p s t old new stops (reached_min bound (asked_below k span j) j s old (not_before k span j) r) going t_is p_is stops_are
        (subst (λ b. HasTurned image.limit b j (count_of image s.arch.pc) stops (is_anchor_pc image t.arch.pc) old new None) (until_is ∙ ap (λ f. bound_after f span bound j) first_is) h);
  }

  -- where none does
  pub passed_on_so : (first : Option ℕ) (span bound until j p : ℕ) (s t : State) (old new : List Waiting) (stops : Bool) → until ≡ bound_after first span bound j → first ≡ None
      → first ≡ first_failing start image j → IsReached start image bound j s old → IsClean start image j → is_over s ≡ false
      → t ≡ step s → p ≡ j + 1 → stops ≡ (task_machine image).stops s.arch
      → HasTurned image.limit until j (count_of image s.arch.pc) stops (is_anchor_pc image t.arch.pc) old new None → IsReached start image bound p t new × IsClean start image p
  passed_on_so first span bound until j p s t old new stops until_is first_is fails r clean going t_is p_is stops_are h = (
    turned_on bound j p s t old new stops r going t_is p_is stops_are
        (subst (λ b. HasTurned image.limit b j (count_of image s.arch.pc) stops (is_anchor_pc image t.arch.pc) old new None) (until_is ∙ ap (λ f. bound_after f span bound j) first_is) h),
    clean_on j p p_is clean (sym fails ∙ first_is),
  )
