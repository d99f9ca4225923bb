-- The anchors that wait are those from which it is not yet told whether a task comes to its end.
use Rattle.std.proofs.Common.{◌≡◌, ◌⊎◌, ℕ, zero, suc, ◌+◌, ◌-◌, ◌<◌, ◌≤◌, Bool, true, false, ◌||◌, ◌&&◌, not, cond, List, [], ◌∷◌, ◌++◌, map, Option, Some, None, refl, sym, ap, ◌∙◌, subst, ⊎_elim, true≢false, arith}
use Rattle.std.specs.Prelude.{nat_eq, nat_lt}
use Rattle.std.specs.List.{list_any, filter}
use Rattle.std.proofs.lemmas.Bool.{eq-eqb, eqb-true, eqb-false, lt-ltb, ltb-true, or_cases, or_left, or_right, or_parts, cases_eq, false_from_ne_true}
use Rattle.cells.specs.Run.{State, is_over}
use Rattle.rv_semantics.proofs.Tasks.{moves}
use Rattle.dist_image.specs.Image.{Distilled, IsImage, anchor_at, prints_at}
use Rattle.image_semantics.specs.World.{count_of}
use Rattle.fitting.specs.Fails.{state_at, pc_at}
use Rattle.fitting.proofs.Each.{OfEach}
use Rattle.assumption_laws.specs.declared.Waiting.{Waiting}
use Rattle.assumption_laws.specs.Looks.{comes, span_fails, is_late}
use Rattle.assumption_laws.specs.Waits.{lower, lowered, passed_on, joined, is_overdue, waiting, at_hand, overdue}
use Rattle.assumption_laws.specs.Laws.{IsSearched, WaitsTell}
use Rattle.assumption_laws.proofs.Spans.{counts_from_1, goes_on, is_anchor, stop_at}

-- ---- lists

pick : {A : Type 0} (P : A → Type 0) (test : A → Bool) (xs : List A) → OfEach P xs → list_any test xs ≡ true → (x : A) × P x × (test x ≡ true)
pick P test [] all h = absurd (true≢false (sym h))
pick P test (x ∷ xs) all h = ⊎_elim (λ (e : test x ≡ true). (x, all.0, e)) (λ (e : list_any test xs ≡ true). pick P test xs all.1 e) (or_cases (test x) (list_any test xs) h)

each_push : {A : Type 0} (P : A → Type 0) (xs : List A) (x : A) → OfEach P xs → P x → OfEach P (xs ++ x ∷ [])
each_push P [] x all h = (h, tt)
each_push P (y ∷ xs) x all h = (all.0, each_push P xs x all.1 h)

any_push_old : {A : Type 0} (test : A → Bool) (xs : List A) (x : A) → list_any test xs ≡ true → list_any test (xs ++ x ∷ []) ≡ true
any_push_old test [] x h = absurd (true≢false (sym h))
any_push_old test (y ∷ xs) x h = ⊎_elim
    (λ (e : test y ≡ true). or_left (test y) _ e)
    (λ (e : list_any test xs ≡ true). or_right (test y) _ (any_push_old test xs x e))
    (or_cases (test y) (list_any test xs) h)

any_push_new : {A : Type 0} (test : A → Bool) (xs : List A) (x : A) → test x ≡ true → list_any test (xs ++ x ∷ []) ≡ true
any_push_new test [] x h = or_left (test x) false h
any_push_new test (y ∷ xs) x h = or_right (test y) _ (any_push_new test xs x h)

abbrev has : ℕ → List Waiting → Bool
has i ws = list_any (λ (w : Waiting). nat_eq w.since i) ws

module _ (start : State) (image : Distilled) (bound : ℕ) where
  -- at position j it is not told yet whether a task from there comes to its end
  record Ahead (j : ℕ) (w : Waiting) : Type 0 where
    within : w.since < bound
    begun : w.since ≤ j
    young : j ≤ w.since + image.limit
    some : 1 ≤ w.left
    told : span_fails start image w.since ≡ not (comes start image (w.since + image.limit - j) w.left j)

  comes_step : (s left j : ℕ) → stop_at start image j ≡ false → is_over (state_at start (suc j)) ≡ false
      → comes start image (suc s) left j ≡ goes_on start image (is_anchor start image (suc j)) s left (suc j)
  unfolding comes
  comes_step s left j stop going = parts (stop_at start image j) (is_over (state_at start (suc j))) (goes_on start image (is_anchor start image (suc j)) s left (suc j)) stop going
    where
      parts : (a b c : Bool) → a ≡ false → b ≡ false → (a || (not b && c)) ≡ c
      parts true b c e f = absurd (true≢false e)
      parts false true c e f = absurd (true≢false f)
      parts false false c e f = refl

  comes_stop : (s left j : ℕ) → stop_at start image j ≡ true → comes start image (suc s) left j ≡ true
  unfolding comes
  comes_stop s left j h = or_left (stop_at start image j) _ h

  comes_none : (left j : ℕ) → comes start image 0 left j ≡ false
  unfolding comes
  comes_none left j = refl

  -- one that is not overdue has a step left
  step_left : (w : Waiting) (j : ℕ) → Ahead j w → nat_eq (w.since + image.limit) j ≡ false → w.since + image.limit - j ≡ suc (w.since + image.limit - suc j)
  step_left w j a h = let ne = eqb-false (w.since + image.limit) j h in let l = a.young in omega (arith, ne, l)

  told_on : (w : Waiting) (j : ℕ) → Ahead j w → nat_eq (w.since + image.limit) j ≡ false
      → span_fails start image w.since ≡ not (comes start image (suc (w.since + image.limit - suc j)) w.left j)
  told_on w j a h = subst (λ n. span_fails start image w.since ≡ not (comes start image n w.left j)) (step_left w j a h) a.told

  -- where no anchor is at the next position
  ahead_on : (w : Waiting) (j : ℕ) → stop_at start image j ≡ false → is_over (state_at start (suc j)) ≡ false → is_anchor start image (suc j) ≡ false
      → Ahead j w → nat_eq (w.since + image.limit) j ≡ false → Ahead (suc j) w
  ahead_on w j stop going there a h = record {
    within = a.within;
    begun = (let l = a.begun in omega (arith, l));
    young = (let ne = eqb-false (w.since + image.limit) j h in let l = a.young in omega (arith, ne, l));
    some = a.some;
    told = told_on w j a h ∙ ap not (comes_step (w.since + image.limit - suc j) w.left j stop going
        ∙ ap (λ b. goes_on start image b (w.since + image.limit - suc j) w.left (suc j)) there);
  }

  -- where one is
  told_lower : (w : Waiting) (j : ℕ) → stop_at start image j ≡ false → is_over (state_at start (suc j)) ≡ false → is_anchor start image (suc j) ≡ true
      → Ahead j w → nat_eq (w.since + image.limit) j ≡ false
      → span_fails start image w.since ≡ not (nat_eq w.left 1 || comes start image (w.since + image.limit - suc j) (w.left - 1) (suc j))
  told_lower w j stop going there a h =
      told_on w j a h ∙ ap not (comes_step (w.since + image.limit - suc j) w.left j stop going
      ∙ ap (λ b. goes_on start image b (w.since + image.limit - suc j) w.left (suc j)) there)

  ahead_lower : (w : Waiting) (j : ℕ) → stop_at start image j ≡ false → is_over (state_at start (suc j)) ≡ false → is_anchor start image (suc j) ≡ true
      → Ahead j w → nat_eq (w.since + image.limit) j ≡ false → nat_eq w.left 1 ≡ false → Ahead (suc j) (lower w)
  ahead_lower w j stop going there a h more = record {
    within = a.within;
    begun = (let l = a.begun in omega (arith, l));
    young = (let ne = eqb-false (w.since + image.limit) j h in let l = a.young in omega (arith, ne, l));
    some = (let ne = eqb-false w.left 1 more in let l = a.some in omega (arith, ne, l));
    told = told_lower w j stop going there a h ∙ ap (λ b. not (b || comes start image (w.since + image.limit - suc j) (w.left - 1) (suc j))) more;
  }

  each_on : (j : ℕ) → stop_at start image j ≡ false → is_over (state_at start (suc j)) ≡ false → is_anchor start image (suc j) ≡ false
      → (ws : List Waiting) → OfEach (Ahead j) ws → is_overdue image.limit j ws ≡ false → OfEach (Ahead (suc j)) ws
  each_on j stop going there [] all h = tt
  each_on j stop going there (w ∷ ws) all h =
      let p = or_parts (nat_eq (w.since + image.limit) j) _ h in
      (ahead_on w j stop going there all.0 p.0, each_on j stop going there ws all.1 p.1)

  each_lower : (j : ℕ) → stop_at start image j ≡ false → is_over (state_at start (suc j)) ≡ false → is_anchor start image (suc j) ≡ true
      → (ws : List Waiting) → OfEach (Ahead j) ws → is_overdue image.limit j ws ≡ false → OfEach (Ahead (suc j)) (lowered ws)
  each_lower j stop going there [] all h = tt
  each_lower j stop going there (w ∷ ws) all h =
      let p = or_parts (nat_eq (w.since + image.limit) j) (is_overdue image.limit j ws) h in
      if_last (nat_eq w.left 1) refl (λ more. ahead_lower w j stop going there all.0 p.0 more) (each_lower j stop going there ws all.1 p.1)
    where
      if_last : (b : Bool) → nat_eq w.left 1 ≡ b → (nat_eq w.left 1 ≡ false → Ahead (suc j) (lower w)) → OfEach (Ahead (suc j)) (lowered ws)
          → OfEach (Ahead (suc j)) (map lower (cond (not b) (w ∷ filter (λ (w : Waiting). not (nat_eq w.left 1)) ws) (filter (λ (w : Waiting). not (nat_eq w.left 1)) ws)))
      if_last true e first others = others
      if_last false e first others = (first e, others)

  -- what fails still waits
  has_lower : (j i : ℕ) → stop_at start image j ≡ false → is_over (state_at start (suc j)) ≡ false → is_anchor start image (suc j) ≡ true → span_fails start image i ≡ true
      → (ws : List Waiting) → OfEach (Ahead j) ws → is_overdue image.limit j ws ≡ false → has i ws ≡ true → has i (lowered ws) ≡ true
  has_lower j i stop going there fails [] all h hs = absurd (true≢false (sym hs))
  has_lower j i stop going there fails (w ∷ ws) all h hs =
      let p = or_parts (nat_eq (w.since + image.limit) j) (is_overdue image.limit j ws) h in
      if_last (nat_eq w.left 1) refl (told_lower w j stop going there all.0 p.0) (λ e. has_lower j i stop going there fails ws all.1 p.1 e) (or_cases (nat_eq w.since i) (has i ws) hs)
    where
      if_last : (b : Bool) → nat_eq w.left 1 ≡ b
          → span_fails start image w.since ≡ not (nat_eq w.left 1 || comes start image (w.since + image.limit - suc j) (w.left - 1) (suc j))
          → (has i ws ≡ true → has i (lowered ws) ≡ true) → (nat_eq w.since i ≡ true) ⊎ (has i ws ≡ true)
          → has i (map lower (cond (not b) (w ∷ filter (λ (w : Waiting). not (nat_eq w.left 1)) ws) (filter (λ (w : Waiting). not (nat_eq w.left 1)) ws))) ≡ true
      if_last true e told others where_is = ⊎_elim
          (λ (s : nat_eq w.since i ≡ true).
          let done : span_fails start image w.since ≡ false = told ∙ ap (λ b. not (b || comes start image (w.since + image.limit - suc j) (w.left - 1) (suc j))) e in
          absurd (true≢false (sym fails ∙ ap (span_fails start image) (sym (eqb-true w.since i s)) ∙ done)))
          others
          where_is
      if_last false e told others where_is = ⊎_elim (λ (s : nat_eq w.since i ≡ true). or_left (nat_eq w.since i) _ s) (λ (s : has i ws ≡ true). or_right (nat_eq w.since i) _ (others s)) where_is

  has_stop : (j i : ℕ) → stop_at start image j ≡ true → span_fails start image i ≡ true
      → (ws : List Waiting) → OfEach (Ahead j) ws → is_overdue image.limit j ws ≡ false → has i ws ≡ true → ⊥
  has_stop j i stop fails [] all h hs = true≢false (sym hs)
  has_stop j i stop fails (w ∷ ws) all h hs =
      let p = or_parts (nat_eq (w.since + image.limit) j) (is_overdue image.limit j ws) h in
      ⊎_elim
      (λ (s : nat_eq w.since i ≡ true).
      let done : span_fails start image w.since ≡ false = told_on w j all.0 p.0 ∙ ap not (comes_stop (w.since + image.limit - suc j) w.left j stop) in
      true≢false (sym fails ∙ ap (span_fails start image) (sym (eqb-true w.since i s)) ∙ done))
      (λ (s : has i ws ≡ true). has_stop j i stop fails ws all.1 p.1 s)
      (or_cases (nat_eq w.since i) (has i ws) hs)

  -- the one at j, if there is one
  each_join : IsImage image → (j : ℕ) (o : Option ℕ) (ws : List Waiting) → count_of image (pc_at start j) ≡ o → OfEach (Ahead j) ws → OfEach (Ahead j) (joined bound j o ws)
  each_join valid j None ws e all = all
  each_join valid j (Some count) ws e all = if_within (nat_lt j bound) refl
    where
      new : nat_lt j bound ≡ true → Ahead j (record { since = j; left = count })
      new l = record {
        within = ltb-true j bound l;
        begun = omega arith;
        young = omega arith;
        some = counts_from_1 image valid (anchor_at image (pc_at start j)) count e;
        told =
            (let all_left : image.limit ≡ j + image.limit - j = omega arith in
            subst (λ n. span_fails start image j ≡ not (comes start image n count j)) all_left (ap (λ o. is_late start image o j) e));
      }

      if_within : (b : Bool) → nat_lt j bound ≡ b → OfEach (Ahead j) (cond b (ws ++ record { since = j; left = count } ∷ []) ws)
      if_within true l = each_push (Ahead j) ws _ all (new l)
      if_within false l = all

  has_join_old : (i j : ℕ) (o : Option ℕ) (ws : List Waiting) → has i ws ≡ true → has i (joined bound j o ws) ≡ true
  has_join_old i j None ws h = h
  has_join_old i j (Some count) ws h = if_within (nat_lt j bound)
    where
      if_within : (b : Bool) → has i (cond b (ws ++ record { since = j; left = count } ∷ []) ws) ≡ true
      if_within true = any_push_old (λ (w : Waiting). nat_eq w.since i) ws _ h
      if_within false = h

  has_join_new : (j : ℕ) (o : Option ℕ) (ws : List Waiting) → count_of image (pc_at start j) ≡ o → j < bound → span_fails start image j ≡ true → has j (joined bound j o ws) ≡ true
  has_join_new j None ws e l fails = absurd (true≢false (sym fails ∙ ap (λ o. is_late start image o j) e))
  has_join_new j (Some count) ws e l fails = if_within (nat_lt j bound) (lt-ltb j bound l)
    where
      if_within : (b : Bool) → b ≡ true → has j (cond b (ws ++ record { since = j; left = count } ∷ []) ws) ≡ true
      if_within true h = any_push_new (λ (w : Waiting). nat_eq w.since j) ws (record { since = j; left = count }) (eq-eqb j j refl)
      if_within false h = absurd (true≢false (sym h))

  -- each one that waits is not told yet, and whatever fails waits
  record IsTold (j : ℕ) (before : ℕ) (ws : List Waiting) : Type 0 where
    each : OfEach (Ahead j) ws
    all : (i : ℕ) → i < before → i < bound → span_fails start image i ≡ true → has i ws ≡ true

  hand : IsImage image → (j : ℕ) → IsTold j j (waiting start image bound j) → IsTold j (suc j) (at_hand start image bound j)
  hand valid j t = record {
    each = each_join valid j (count_of image (pc_at start j)) (waiting start image bound j) refl t.each;
    all = λ i l b fails. ⊎_elim
        (λ (e : j ≡ i). subst (λ n. has n (at_hand start image bound j) ≡ true) e
        (has_join_new j (count_of image (pc_at start j)) (waiting start image bound j) refl (subst (λ n. n < bound) (sym e) b) (ap (span_fails start image) e ∙ fails)))
        (λ (ne : j ≡ i → ⊥). has_join_old i j (count_of image (pc_at start j)) (waiting start image bound j) (t.all i (omega (arith, l, ne)) b fails))
        (cases_eq j i);
  }

  on : (j : ℕ) (ws : List Waiting) (stop there : Bool) → stop_at start image j ≡ stop → is_anchor start image (suc j) ≡ there → is_over (state_at start (suc j)) ≡ false
      → is_overdue image.limit j ws ≡ false → IsTold j (suc j) ws → IsTold (suc j) (suc j) (passed_on stop there ws)
  on j ws true there e f going none t = record { each = tt; all = λ i l b fails. absurd (has_stop j i e fails ws t.each none (t.all i l b fails)) }
  on j ws false true e f going none t = record {
    each = each_lower j e going f ws t.each none;
    all = λ i l b fails. has_lower j i e going f fails ws t.each none (t.all i l b fails);
  }
  on j ws false false e f going none t = record { each = each_on j e going f ws t.each none; all = t.all }

  waits : IsImage image → (j : ℕ) → IsSearched start image bound j → is_over (state_at start j) ≡ false → IsTold j j (waiting start image bound j)
  unfolding waiting
  waits valid zero s going = record { each = tt; all = λ i l b fails. absurd (omega (arith, l)) }
  waits valid (suc j) s going =
      let before : IsSearched start image bound j = record { going = λ k l. s.going k (omega (arith, l)); none = λ k l. s.none k (omega (arith, l)) } in
      on j (at_hand start image bound j) (stop_at start image j) (is_anchor start image (suc j)) refl refl going (s.none j (omega arith))
      (hand valid j (waits valid j before (s.going j (omega arith))))

  over_by_stop : (k : ℕ) → is_over (state_at start k) ≡ false → is_over (state_at start (suc k)) ≡ true → stop_at start image k ≡ true
  over_by_stop k going over = must_stop (stop_at start image k) refl
    where
      must_stop : (b : Bool) → stop_at start image k ≡ b → b ≡ true
      must_stop true e = refl
      must_stop false e = absurd (true≢false (sym over ∙ ap is_over (moves (prints_at image) (state_at start k) going e) ∙ going))

  late : IsImage image → (j : ℕ) → IsSearched start image bound j → is_over (state_at start j) ≡ false → overdue start image bound j ≡ true
      → (i : ℕ) × (i + image.limit ≡ j) × (i < bound) × (span_fails start image i ≡ true) × ((h : ℕ) → h < i → span_fails start image h ≡ false)
  late valid j s going h =
      let t = hand valid j (waits valid j s going) in
      let w = pick (Ahead j) (λ (w : Waiting). nat_eq (w.since + image.limit) j) (at_hand start image bound j) t.each h in
      let due : w.0.since + image.limit ≡ j = eqb-true (w.0.since + image.limit) j w.2 in
      let zero_left : w.0.since + image.limit - j ≡ 0 = omega (arith, due) in (
        w.0.since,
        due,
        w.1.within,
        w.1.told ∙ ap (λ n. not (comes start image n w.0.left j)) zero_left ∙ ap not (comes_none w.0.left j),
        λ g l. false_from_ne_true (span_fails start image g) (λ fails.
            let b = w.1.within in
            let v = pick (Ahead j) (λ (v : Waiting). nat_eq v.since g) (at_hand start image bound j) t.each (t.all g (omega (arith, l, due)) (omega (arith, l, b)) fails) in
            let same : v.0.since ≡ g = eqb-true v.0.since g v.2 in
            let y = v.1.young in
            omega (arith, same, y, l, due)),
      )

  ended : IsImage image → (j : ℕ) → IsSearched start image bound j → is_over (state_at start j) ≡ true → (i : ℕ) → i < bound → i < j → span_fails start image i ≡ false
  ended valid zero s over i b l = absurd (omega (arith, l))
  ended valid (suc k) s over i b l =
      let going = s.going k (omega arith) in
      let before : IsSearched start image bound k = record { going = λ k l. s.going k (omega (arith, l)); none = λ k l. s.none k (omega (arith, l)) } in
      let t = hand valid k (waits valid k before going) in
      false_from_ne_true (span_fails start image i) (λ fails. has_stop k i (over_by_stop k going over) fails (at_hand start image bound k) t.each (s.none k (omega arith)) (t.all i l b fails))

  past : IsImage image → (j : ℕ) → IsSearched start image bound j → bound + image.limit ≤ j → is_over (state_at start j) ≡ false → (i : ℕ) → i < bound → span_fails start image i ≡ false
  past valid j s far going i b =
      let t = waits valid j s going in
      false_from_ne_true (span_fails start image i) (λ fails.
      let v = pick (Ahead j) (λ (v : Waiting). nat_eq v.since i) (waiting start image bound j) t.each (t.all i (omega (arith, b, far)) b fails) in
      let same : v.0.since ≡ i = eqb-true v.0.since i v.2 in
      let y = v.1.young in
      omega (arith, same, y, b, far))

pub waits_tell : (start : State) (image : Distilled) → IsImage image → WaitsTell start image
waits_tell start image valid = record {
  late = λ bound j s going h. late start image bound valid j s going h;
  ended = λ bound j s over i b l. ended start image bound valid j s over i b l;
  past = λ bound j s far going i b. past start image bound valid j s far going i b;
}
