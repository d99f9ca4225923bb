-- A profile can hold the tally of a run, unless it is too wide.
use Rattle.std.proofs.Common.{◌≡◌, ℕ, zero, suc, ◌+◌, ◌<◌, ◌≤◌, ◌^◌, Bool, true, false, ◌||◌, ◌&&◌, cond, List, [], ◌∷◌, ◌++◌, length, map, All, inl, inr, refl, sym, ap, ◌∙◌, subst, ⊎_elim, true≢false, arith}
use Rattle.cells.specs.Cells.{IsPc}
use Rattle.std.specs.Prelude.{nat_eq, nat_lt, Option, Some, None}
use Rattle.std.specs.List.{sum_by, IsDistinct, AllByRecursion}
use Rattle.std.proofs.lemmas.Bool.{eqb-true, eq-eqb, or_parts, or_cases, or_left, or_right, cases_eq}
use Rattle.std.proofs.lemmas.List.{length-append}
use Rattle.std.proofs.lemmas.List.Elements.{All-nil, All-cons}
use Rattle.std.proofs.lemmas.List.Sums.{sum_by-cons, sum_by_push}
use Rattle.cells.specs.Run.{State}
use Rattle.profile_data.specs.Profile.{Tally, pc_of, executed_of, target_count, IsTally, IsProfile}
use Rattle.fitting.specs.Claims.{among}
use Rattle.fitting.specs.Fails.{pc_at, arch_at, fetched_at}
use Rattle.profile_laws.specs.Profiles.{count_below, is_at, with_new, pcs, executed, is_counted, IsWide}
use Rattle.profile_laws.specs.Tally.{kept, with_target, placed, visit_at, profile_of}
use Rattle.profile_laws.proofs.Listed.{AreApart, swapped, among_with_new}
use Rattle.profile_laws.proofs.Kept.{row, row_pc, pcs_apart, unseen, rows_map}
use Rattle.profile_laws.proofs.Fields.{executed_is, next_row}
use Rattle.profile_laws.proofs.Law.{each_row, row_is, pcs_of_rows}

pub count_both : (a b : ℕ → Bool) (n : ℕ) → count_below (λ i. a i && b i) n ≤ count_below a n
unfolding count_below
count_both a b zero = omega arith
count_both a b (suc n) = both_at_most (a n) (b n) (count_both a b n)
  where
    both_at_most : (x y : Bool) → count_below (λ i. a i && b i) n ≤ count_below a n → count_below (λ i. a i && b i) n + cond (x && y) 1 0 ≤ count_below a n + cond x 1 0
    both_at_most true true h = omega arith
    both_at_most true false h = omega arith
    both_at_most false y h = omega arith

-- ---- sums over numbers that differ

sum_other : (f : ℕ → ℕ) (q : ℕ) (ps : List ℕ) → among ps q ≡ false → sum_by (λ p. f p + cond (nat_eq q p) 1 0) ps ≡ sum_by f ps
sum_other f q [] none = refl
sum_other f q (p ∷ ps) none =
    let parts = or_parts (nat_eq p q) (among ps q) none in
    let here : f p + cond (nat_eq q p) 1 0 ≡ f p + 0 = ap (λ b. f p + cond b 1 0) (swapped q p ∙ parts.0) in
    let rest = sum_other f q ps parts.1 in
    let a = sum_by-cons (λ p. f p + cond (nat_eq q p) 1 0) p ps in
    let b = sum_by-cons f p ps in
    omega arith

sum_one : (f : ℕ → ℕ) (q : ℕ) (ps : List ℕ) → AreApart ps → among ps q ≡ true → sum_by (λ p. f p + cond (nat_eq q p) 1 0) ps ≡ suc (sum_by f ps)
sum_one f q [] apart there = absurd (true≢false (sym there))
sum_one f q (p ∷ ps) apart there = sum_if_here (nat_eq p q) refl (sum_one f q ps apart.1)
  where
    sum_if_here : (b : Bool) → nat_eq p q ≡ b → (among ps q ≡ true → sum_by (λ p. f p + cond (nat_eq q p) 1 0) ps ≡ suc (sum_by f ps))
        → sum_by (λ p. f p + cond (nat_eq q p) 1 0) (p ∷ ps) ≡ suc (sum_by f (p ∷ ps))
    sum_if_here true e rest =
        let here : f p + cond (nat_eq q p) 1 0 ≡ f p + 1 = ap (λ b. f p + cond b 1 0) (swapped q p ∙ e) in
        let others = sum_other f q ps (ap (among ps) (sym (eqb-true p q e)) ∙ apart.0) in
        let a = sum_by-cons (λ p. f p + cond (nat_eq q p) 1 0) p ps in
        let b = sum_by-cons f p ps in
        omega arith
    sum_if_here false e rest =
        let here : f p + cond (nat_eq q p) 1 0 ≡ f p + 0 = ap (λ b. f p + cond b 1 0) (swapped q p ∙ e) in
        let others = rest (sym (ap (λ b. b || among ps q) e) ∙ there) in
        let a = sum_by-cons (λ p. f p + cond (nat_eq q p) 1 0) p ps in
        let b = sum_by-cons f p ps in
        omega arith

sum_map : (g : Tally → ℕ) (f : ℕ → Tally) (ps : List ℕ) → sum_by g (map f ps) ≡ sum_by (λ p. g (f p)) ps
sum_map g f [] = refl
sum_map g f (p ∷ ps) =
    let a = sum_by-cons g (f p) (map f ps) in
    let b = sum_by-cons (λ q. g (f q)) p ps in
    let rest = sum_map g f ps in
    omega arith

sum_same : (f g : ℕ → ℕ) → ((p : ℕ) → f p ≡ g p) → (ps : List ℕ) → sum_by f ps ≡ sum_by g ps
sum_same f g same ps = ap (λ (h : ℕ → ℕ). sum_by h ps) (λ i p. same p i)

module _ (prints : ℕ → Bool) (start : State) where
  sum_next : (k : ℕ) (ps : List ℕ) → sum_by (executed start (suc k)) ps ≡ sum_by (λ p. executed start k p + cond (nat_eq (pc_at start k) p) 1 0) ps
  unfolding count_below
  sum_next k ps = refl

  never_executed : (k p : ℕ) → among (pcs start k) p ≡ false → executed start k p ≡ 0
  never_executed k p none = sym (executed_is prints start p k) ∙ ap executed_of (unseen prints start k p none).0

  sum_with_new : (k : ℕ) → sum_by (executed start k) (with_new (pc_at start k) (pcs start k)) ≡ sum_by (executed start k) (pcs start k)
  sum_with_new k = sum_if_there (among (pcs start k) (pc_at start k)) refl
    where
      sum_if_there : (b : Bool) → among (pcs start k) (pc_at start k) ≡ b → sum_by (executed start k) (cond b (pcs start k) (pcs start k ++ pc_at start k ∷ [])) ≡ sum_by (executed start k) (pcs start k)
      sum_if_there true e = refl
      sum_if_there false e =
          let a = sum_by_push (executed start k) (pcs start k) (pc_at start k) in
          let b = never_executed k (pc_at start k) e in
          omega arith

  there_now : (k : ℕ) → among (pcs start (suc k)) (pc_at start k) ≡ true
  unfolding pcs
  there_now k = among_with_new (pcs start k) (pc_at start k) (pc_at start k) ∙ or_right (among (pcs start k) (pc_at start k)) (nat_eq (pc_at start k) (pc_at start k)) (self (pc_at start k))
    where
      self : (n : ℕ) → nat_eq n n ≡ true
      self n = eq-eqb n n refl

  sum_executed : (k : ℕ) → sum_by (executed start k) (pcs start k) ≡ k
  unfolding pcs
  sum_executed zero = refl
  sum_executed (suc k) =
      sum_next k (pcs start (suc k))
      ∙ sum_one (executed start k) (pc_at start k) (pcs start (suc k)) (pcs_apart prints start (suc k)) (there_now k)
      ∙ ap suc (sum_with_new k ∙ sum_executed k)

-- ---- each row is valid

apart_distinct : (ps : List ℕ) → AreApart ps → IsDistinct nat_eq ps
unfolding IsDistinct
apart_distinct [] apart = tt
apart_distinct (p ∷ ps) apart = (each p ps apart.0, apart_distinct ps apart.1)
  where
    each : (p : ℕ) (ps : List ℕ) → among ps p ≡ false → AllByRecursion (λ q. nat_eq p q ≡ false) ps
    each p [] none = tt
    each p (q ∷ ps) none = let parts = or_parts (nat_eq q p) (among ps p) none in (swapped p q ∙ parts.0, each p ps parts.1)

each_among : (P : ℕ → Type 0) (ms : List ℕ) → ((m : ℕ) → among ms m ≡ true → P m) → All P ms
each_among P [] h = All-nil P
each_among P (m ∷ ms) h =
    All-cons P m ms (h m (or_left (nat_eq m m) (among ms m) (eq-eqb m m refl)))
    (each_among P ms (λ q there. h q (or_right (nat_eq m q) (among ms q) there)))

module _ (prints : ℕ → Bool) (start : State) where
  -- a pc of the list stood at a position before n
  stood : (n p : ℕ) → among (pcs start n) p ≡ true → (i : ℕ) × (i < n) × (pc_at start i ≡ p)
  unfolding pcs
  stood zero p there = absurd (true≢false (sym there))
  stood (suc n) p there = ⊎_elim
      (λ (e : among (pcs start n) p ≡ true). let s = stood n p e in (s.0, omega (arith, s.1), s.2))
      (λ (e : nat_eq (pc_at start n) p ≡ true). (n, omega arith, eqb-true (pc_at start n) p e))
      (or_cases (among (pcs start n) p) (nat_eq (pc_at start n) p) (sym (among_with_new (pcs start n) (pc_at start n) p) ∙ there))

  was_executed : (n p : ℕ) → among (pcs start n) p ≡ true → 1 ≤ executed start n p
  unfolding pcs count_below
  was_executed zero p there = absurd (true≢false (sym there))
  was_executed (suc n) p there = ⊎_elim
      (λ (e : among (pcs start n) p ≡ true). let s = was_executed n p e in omega arith)
      (λ (e : nat_eq (pc_at start n) p ≡ true). let s = ap (λ b. executed start n p + cond b 1 0) e in omega arith)
      (or_cases (among (pcs start n) p) (nat_eq (pc_at start n) p) (sym (among_with_new (pcs start n) (pc_at start n) p) ∙ there))

  row_is_valid : (n p : ℕ) → ((i : ℕ) → i ≤ n → IsPc (pc_at start i)) → among (pcs start n) p ≡ true → IsTally (row prints start n p)
  row_is_valid n p at there =
      let r = row_is prints start n p in
      let e = row_pc prints start n p in
      let s = stood n p there in
      let some = was_executed n p there in
      let is = executed_is prints start p n in
      let few = count_both (is_at start (row prints start n p).pc) (λ i. is_counted prints (fetched_at start i) (arch_at start i)) n in
      let all = r.executed in
      let ones = r.taken in
      record {
        pc = subst IsPc (sym e) (subst IsPc s.2 (at s.0 (omega (arith, s.1))));
        executed = omega arith;
        taken = omega arith;
        targets = each_among IsPc (row prints start n p).targets (λ to h. let g = (r.targets to).0 h in subst IsPc g.5 (at (suc g.0) (omega (arith, g.1))));
        targets_rise = r.targets_rise;
      }

-- ---- more and more

fewer : (f g : ℕ → ℕ) → ((p : ℕ) → f p ≤ g p) → (ps : List ℕ) → sum_by f ps ≤ sum_by g ps
fewer f g le [] = omega arith
fewer f g le (p ∷ ps) =
    let a = sum_by-cons f p ps in
    let b = sum_by-cons g p ps in
    let here = le p in
    let rest = fewer f g le ps in
    omega arith

longer_placed : (n : ℕ) (ms : List ℕ) → length ms ≤ length (placed n ms)
longer_placed n [] = omega arith
longer_placed n (m ∷ ms) = longer_if_less (nat_lt m n) (nat_eq m n) (longer_placed n ms)
  where
    longer_if_less : (b c : Bool) → length ms ≤ length (placed n ms) → length (m ∷ ms) ≤ length (cond b (m ∷ placed n ms) (cond c (m ∷ ms) (n ∷ m ∷ ms)))
    longer_if_less true c h = omega arith
    longer_if_less false true h = omega arith
    longer_if_less false false h = omega arith

longer : (o : Option ℕ) (ms : List ℕ) → length ms ≤ length (with_target o ms)
longer None ms = omega arith
longer (Some n) ms = longer_placed n ms

abbrev targets_of : Tally → ℕ
targets_of t = length t.targets

module _ (prints : ℕ → Bool) (start : State) where
  more_targets : (k p : ℕ) → targets_of (row prints start k p) ≤ targets_of (row prints start (suc k) p)
  unfolding row
  more_targets k p = targets_if_visited (nat_eq (pc_at start k) p)
    where
      targets_if_visited : (b : Bool) → targets_of (row prints start k p) ≤ targets_of (next_row prints start p k b)
      targets_if_visited true = longer (visit_at prints start k).target (row prints start k p).targets
      targets_if_visited false = omega arith

  more_pcs : (f : ℕ → ℕ) (k : ℕ) → sum_by f (pcs start k) ≤ sum_by f (pcs start (suc k))
  unfolding pcs
  more_pcs f k = more_if_there (among (pcs start k) (pc_at start k))
    where
      more_if_there : (b : Bool) → sum_by f (pcs start k) ≤ sum_by f (cond b (pcs start k) (pcs start k ++ pc_at start k ∷ []))
      more_if_there true = omega arith
      more_if_there false = let a = sum_by_push f (pcs start k) (pc_at start k) in omega arith

  abbrev rows_at : ℕ → List Tally
  rows_at k = (kept prints start k).rows

  counted_by : (g : Tally → ℕ) (k : ℕ) → sum_by g (rows_at k) ≡ sum_by (λ p. g (row prints start k p)) (pcs start k)
  counted_by g k = ap (sum_by g) (rows_map prints start k) ∙ sum_map g (row prints start k) (pcs start k)

  more_in_all : (k : ℕ) → target_count (rows_at k) ≤ target_count (rows_at (suc k))
  more_in_all k =
      let a = counted_by targets_of k in
      let b = counted_by targets_of (suc k) in
      let c = fewer (λ p. targets_of (row prints start k p)) (λ p. targets_of (row prints start (suc k) p)) (more_targets k) (pcs start k) in
      let d = more_pcs (λ p. targets_of (row prints start (suc k) p)) k in
      omega arith

  length_map : (f : ℕ → Tally) (ps : List ℕ) → length (map f ps) ≡ length ps
  length_map f [] = refl
  length_map f (p ∷ ps) = let e = length_map f ps in omega arith

  more_rows : (k : ℕ) → length (rows_at k) ≤ length (rows_at (suc k))
  unfolding pcs
  more_rows k =
      let a = ap length (rows_map prints start k) in
      let b = ap length (rows_map prints start (suc k)) in
      let c = length_map (row prints start k) (pcs start k) in
      let d = length_map (row prints start (suc k)) (pcs start (suc k)) in
      let e = longer_if_there (among (pcs start k) (pc_at start k)) in
      omega arith
    where
      longer_if_there : (b : Bool) → length (pcs start k) ≤ length (cond b (pcs start k) (pcs start k ++ pc_at start k ∷ []))
      longer_if_there true = omega arith
      longer_if_there false = let a = length-append (pcs start k) (pc_at start k ∷ []) in omega arith

  wide_next : (k : ℕ) → IsWide (rows_at k) → IsWide (rows_at (suc k))
  wide_next k (inl h) = let m = more_rows k in inl (omega arith)
  wide_next k (inr h) = let m = more_in_all k in inr (omega arith)

  pub wide_stays : (k n : ℕ) → k ≤ n → IsWide (rows_at k) → IsWide (rows_at n)
  wide_stays k zero le h = let e : k ≡ 0 = omega arith in subst (λ m. IsWide (rows_at m)) e h
  wide_stays k (suc n) le h = ⊎_elim
      (λ (e : k ≡ suc n). subst (λ m. IsWide (rows_at m)) e h)
      (λ (ne : k ≡ suc n → ⊥). wide_next n (wide_stays k n (omega arith) h))
      (cases_eq k (suc n))

  pub tally_is_valid : (n : ℕ) → n < 2 ^ 64 → ((i : ℕ) → i ≤ n → IsPc (pc_at start i)) → (IsWide (rows_at n) → ⊥) → IsProfile (profile_of prints start n)
  tally_is_valid n small at narrow = record {
    steps = small;
    few_rows = few (λ h. narrow (inl h));
    few_targets = few_in_all (λ h. narrow (inr h));
    rows = subst (All IsTally) (sym (rows_map prints start n)) (each_row IsTally (row prints start n) (pcs start n) (λ p there. row_is_valid prints start n p at there));
    distinct = subst (IsDistinct nat_eq) (sym (ap (map pc_of) (rows_map prints start n) ∙ pcs_of_rows prints start n (pcs start n))) (apart_distinct (pcs start n) (pcs_apart prints start n));
    sum = counted_by executed_of n ∙ sum_same (λ p. executed_of (row prints start n p)) (executed start n) (λ p. executed_is prints start p n) (pcs start n) ∙ sum_executed prints start n;
  }
    where
      few : (524_288 < length (rows_at n) → ⊥) → length (rows_at n) ≤ 524_288
      few h = omega arith

      few_in_all : (1_048_576 < target_count (rows_at n) → ⊥) → target_count (rows_at n) ≤ 1_048_576
      few_in_all h = omega arith
