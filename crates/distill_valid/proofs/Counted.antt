-- How many pcs are analysed, and how many targets are listed.
use Rattle.std.proofs.Common.{◌≡◌, ℕ, ◌+◌, ◌≤◌, zero, suc, Bool, true, false, not, cond, List, [], ◌∷◌, map, filter, filter_map, length, sum_by, refl, sym, ap, ◌∙◌, subst, arith, eqb, ltb, Option, Some, None}
use Rattle.std.specs.Prelude.{nat_eq}
use Rattle.std.specs.List.{cons_option, AllByRecursion, IsDistinct, slice_get}
use Rattle.std.specs.Option.{option_map}
use Rattle.std.proofs.lemmas.Bool.{cond_both, cond-true, cond-false, eq-eqb}
use Rattle.std.proofs.lemmas.List.Sums.{sum_by-cons}
use Rattle.rv_word.specs.declared.inst.Inst.{Inst}
use Rattle.rv_word.specs.Meaning.{meaning}
use Rattle.dist_image.specs.Image.{Premise, Targets, targets_of, target_count}
use Rattle.profile_data.specs.Profile.{Tally, pc_of, row_at}
use Rattle.profile_data.specs.Profile as profile
use Rattle.distill_rules.specs.Analysed.{put, ascending, is_unchanged, analysed, unchanged, analysed_row}
use Rattle.distill_rules.specs.Flow.{targets_by}
use Rattle.distill_fits.proofs.Analysed.{unchanged_pcs}
use Rattle.distill_valid.proofs.Chosen.{targets_from}
use Rattle.distill_valid.proofs.Picked.{targets_pick}

-- ---- numbers that are put in their order

put_longer : (n : ℕ) (ms : List ℕ) → length (put n ms) ≤ suc (length ms)
put_longer n [] = omega arith
put_longer n (m ∷ ms) =
    cond_both (ltb n m) (n ∷ m ∷ ms) (cond (eqb n m) (m ∷ ms) (m ∷ put n ms)) (λ xs. length xs ≤ suc (length (m ∷ ms))) (λ _. omega arith)
    (λ _. cond_both (eqb n m) (m ∷ ms) (m ∷ put n ms) (λ xs. length xs ≤ suc (length (m ∷ ms))) (λ _. omega arith) (λ _. let rest = put_longer n ms in omega (arith, rest)))

ascending_most : (ns : List ℕ) → length (ascending ns) ≤ length ns
ascending_most [] = omega arith
ascending_most (n ∷ ns) = let a = put_longer n (ascending ns) in let rest = ascending_most ns in omega (arith, a, rest)

pcs_most : (rows : List Tally) → length (unchanged_pcs rows) ≤ length rows
pcs_most [] = omega arith
pcs_most (t ∷ ts) = most_if_changed t.changed (pcs_most ts)
  where
    most_if_changed : (b : Bool) → length (unchanged_pcs ts) ≤ length ts → length (map pc_of (cond (not b) (t ∷ filter is_unchanged ts) (filter is_unchanged ts))) ≤ suc (length ts)
    most_if_changed true more = omega (arith, more)
    most_if_changed false more = omega (arith, more)

pub analysed_most : (rows : List Tally) → length (analysed rows) ≤ length rows
unfolding analysed
analysed_most rows = let a = ascending_most (unchanged_pcs rows) in let b = pcs_most rows in omega (arith, a, b)

-- ---- sums over them

module _ (h : ℕ → ℕ) where
  put_sum : (n : ℕ) (ms : List ℕ) → sum_by h (put n ms) ≤ h n + sum_by h ms
  put_sum n [] = let a = sum_by-cons h n [] in omega (arith, a)
  put_sum n (m ∷ ms) =
      let a = sum_by-cons h n (m ∷ ms) in
      let b = sum_by-cons h m ms in
      let d = sum_by-cons h m (put n ms) in
      cond_both (ltb n m) (n ∷ m ∷ ms) (cond (eqb n m) (m ∷ ms) (m ∷ put n ms)) (λ xs. sum_by h xs ≤ h n + sum_by h (m ∷ ms)) (λ _. omega (arith, a))
      (λ _. cond_both (eqb n m) (m ∷ ms) (m ∷ put n ms) (λ xs. sum_by h xs ≤ h n + sum_by h (m ∷ ms)) (λ _. omega arith) (λ _. let rest = put_sum n ms in omega (arith, rest, b, d)))

  ascending_sum : (ns : List ℕ) → sum_by h (ascending ns) ≤ sum_by h ns
  ascending_sum [] = omega arith
  ascending_sum (n ∷ ns) = let a = put_sum n (ascending ns) in let b = sum_by-cons h n ns in let rest = ascending_sum ns in omega (arith, a, b, rest)

  rows_sum : (g : Tally → ℕ) (rows : List Tally) → AllByRecursion (λ (t : Tally). h t.pc ≤ g t) rows → sum_by h (unchanged_pcs rows) ≤ sum_by g rows
  rows_sum g [] all = omega arith
  rows_sum g (t ∷ ts) all = sum_if_changed t.changed (rows_sum g ts all.1)
    where
      sum_if_changed : (b : Bool) → sum_by h (unchanged_pcs ts) ≤ sum_by g ts → sum_by h (map pc_of (cond (not b) (t ∷ filter is_unchanged ts) (filter is_unchanged ts))) ≤ sum_by g (t ∷ ts)
      sum_if_changed true more = let b = sum_by-cons g t ts in omega (arith, b, more)
      sum_if_changed false more = let a = sum_by-cons h t.pc (unchanged_pcs ts) in let b = sum_by-cons g t ts in omega (arith, a, b, more, all.0)

  pub analysed_sum : (g : Tally → ℕ) (rows : List Tally) → AllByRecursion (λ (t : Tally). h t.pc ≤ g t) rows → sum_by h (analysed rows) ≤ sum_by g rows
  unfolding analysed
  analysed_sum g rows all = let a = ascending_sum (unchanged_pcs rows) in let b = rows_sum g rows all in omega (arith, a, b)

-- ---- each row is found at its own pc

apart_at : (p : ℕ) (ts : List Tally) → AllByRecursion (λ y. nat_eq p y ≡ false) (map pc_of ts) → (i : ℕ) (t : Tally) → slice_get ts i ≡ Some t → nat_eq p t.pc ≡ false
apart_at p [] all i t e = cc
apart_at p (x ∷ xs) all zero t e = let same : x ≡ t = cc in subst (λ (y : Tally). nat_eq p y.pc ≡ false) same all.0
apart_at p (x ∷ xs) all (suc i) t e = apart_at p xs all.1 i t e

own_row : (rows : List Tally) → IsDistinct nat_eq (map pc_of rows) → (i : ℕ) (t : Tally) → slice_get rows i ≡ Some t → row_at rows t.pc ≡ Some t
unfolding IsDistinct
own_row [] d i t e = cc
own_row (x ∷ xs) d zero t e =
    let same : x ≡ t = cc in
    cond-true (eqb x.pc t.pc) (Some x) (row_at xs t.pc) (eq-eqb x.pc t.pc (ap (λ (y : Tally). y.pc) same)) ∙ ap (λ y. Some y) same
own_row (x ∷ xs) d (suc i) t e = cond-false (eqb x.pc t.pc) (Some x) (row_at xs t.pc) (apart_at x.pc xs d.0 i t e) ∙ own_row xs d.1 i t e

-- ---- targets

abbrev targets_len : Tally → ℕ
targets_len t = length t.targets

-- how many the row at a pc has
abbrev row_len : Option Tally → ℕ
row_len None = 0
row_len (Some t) = length t.targets

own_len : (t : Tally) (o : Option Tally) → o ≡ Some t → row_len (unchanged o) ≤ targets_len t
own_len t o e = subst (λ o. row_len (unchanged o) ≤ targets_len t) (sym e) (if_changed t.changed)
  where
    if_changed : (b : Bool) → row_len (cond b None (Some t)) ≤ targets_len t
    if_changed true = omega arith
    if_changed false = omega arith

each_len : (all rows : List Tally) → ((i : ℕ) (t : Tally) → slice_get rows i ≡ Some t → row_at all t.pc ≡ Some t)
    → AllByRecursion (λ (t : Tally). row_len (analysed_row all t.pc) ≤ targets_len t) rows
each_len all [] own = tt
each_len all (t ∷ ts) own = (own_len t (row_at all t.pc) (own 0 t refl), each_len all ts (λ i. own (suc i)))

abbrev one_len : Premise → ℕ
one_len p = length (targets_of p)

by_len : (i : Inst) (o : Option Tally) (to : List ℕ) → targets_by i o ≡ Some to → length to ≤ row_len o
by_len i o to e =
    let x = targets_from i o to e in
    let n = ap row_len x.1 in
    let m = ap (λ (xs : List ℕ). length xs) x.2 in
    omega (arith, n, m)

module _ (word : ℕ → ℕ) (rows : List Tally) (rare : ℕ) where
  picked_len : (pcs : List ℕ) → target_count (filter_map (targets_pick word rows rare) pcs) ≤ sum_by (λ pc. row_len (analysed_row rows pc)) pcs
  picked_len [] = omega arith
  picked_len (pc ∷ pcs) = if_targeted (targets_by (meaning (word pc)) (analysed_row rows pc)) refl (picked_len pcs)
    where
      if_targeted : (o : Option (List ℕ)) → targets_by (meaning (word pc)) (analysed_row rows pc) ≡ o
          → target_count (filter_map (targets_pick word rows rare) pcs) ≤ sum_by (λ pc. row_len (analysed_row rows pc)) pcs
          → target_count (cons_option (option_map (Targets pc) o) (filter_map (targets_pick word rows rare) pcs)) ≤ sum_by (λ pc. row_len (analysed_row rows pc)) (pc ∷ pcs)
      if_targeted None e more = let b = sum_by-cons (λ pc. row_len (analysed_row rows pc)) pc pcs in omega (arith, b, more)
      if_targeted (Some to) e more =
          let a = sum_by-cons one_len (Targets pc to) (filter_map (targets_pick word rows rare) pcs) in
          let b = sum_by-cons (λ pc. row_len (analysed_row rows pc)) pc pcs in
          let n = by_len (meaning (word pc)) (analysed_row rows pc) to e in
          omega (arith, a, b, n, more)

  -- no more targets are listed than the profile has
  pub few_targets : IsDistinct nat_eq (map pc_of rows) → target_count (filter_map (targets_pick word rows rare) (analysed rows)) ≤ profile.target_count rows
  few_targets distinct =
      let a = picked_len (analysed rows) in
      let b = analysed_sum (λ pc. row_len (analysed_row rows pc)) targets_len rows (each_len rows rows (own_row rows distinct)) in
      omega (arith, a, b)
