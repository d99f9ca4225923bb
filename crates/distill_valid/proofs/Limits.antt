-- The list of assumptions is no longer than it may be.
use Rattle.std.proofs.Common.{◌≡◌, ℕ, ◌+◌, ◌≤◌, List, [], ◌∷◌, ◌++◌, map, filter_map, length, sum_by, refl, subst, arith, Option, Some, None, length-append}
use Rattle.std.specs.Prelude.{nat_eq}
use Rattle.std.specs.List.{cons_option, IsDistinct}
use Rattle.std.proofs.lemmas.List.Sums.{sum_by-cons, sum_by-append}
use Rattle.dist_image.specs.Image.{Premise, Code, Within, Span, targets_of, target_count}
use Rattle.profile_data.specs.Profile.{Tally, IsTally, pc_of}
use Rattle.profile_data.specs.Profile as profile
use Rattle.distill_rules.specs.Analysed.{analysed}
use Rattle.distill_rules.specs.Cuts.{cut_at, is_dead}
use Rattle.distill_valid.proofs.Counted as counted
use Rattle.distill_valid.proofs.Picked.{cut_pick, targets_pick, dead_pick, same_pick, OfLoads, all_listed, few_listed}
use Rattle.distill_valid.proofs.Chosen.{cut_as, dead_as, same_as}

module _ (word : ℕ → ℕ) (rows : List Tally) (rare : ℕ) (value : ℕ → Option ℕ) where
  abbrev pcs : List ℕ
  pcs = analysed rows

  abbrev cut_list : List Premise
  cut_list = filter_map (cut_pick word rows rare) pcs

  abbrev targets_list : List Premise
  targets_list = filter_map (targets_pick word rows rare) pcs

  abbrev dead_list : List Premise
  dead_list = filter_map (dead_pick word rows rare) pcs

  abbrev closing : List Premise
  closing = Code ∷ Within ∷ Span ∷ []

  abbrev same_list : List Premise
  same_list = filter_map (same_pick value) pcs

  pub few_assumptions : OfLoads word value → length (all_listed word rows rare value) ≤ length pcs + 3
  few_assumptions of =
      let few = few_listed word rows rare value of pcs in
      let e = length-append (cut_list ++ targets_list ++ dead_list ++ closing) same_list in
      let a = length-append (cut_list ++ targets_list ++ dead_list) closing in
      let b = length-append (cut_list ++ targets_list) dead_list in
      let d = length-append cut_list targets_list in
      omega (arith, few, a, b, d, e)

  abbrev one_len : Premise → ℕ
  one_len p = length (targets_of p)

  none_len : (pick : ℕ → Option Premise) → ((pc : ℕ) (p : Premise) → pick pc ≡ Some p → one_len p ≡ 0) → (ns : List ℕ) → target_count (filter_map pick ns) ≡ 0
  none_len pick h [] = refl
  none_len pick h (n ∷ ns) = if_picked (pick n) refl (none_len pick h ns)
    where
      if_picked : (o : Option Premise) → pick n ≡ o → target_count (filter_map pick ns) ≡ 0 → target_count (cons_option o (filter_map pick ns)) ≡ 0
      if_picked None e more = more
      if_picked (Some p) e more = let a = sum_by-cons one_len p (filter_map pick ns) in let z = h n p e in omega (arith, a, z, more)

  pub few_targets : IsDistinct nat_eq (map pc_of rows) → target_count (all_listed word rows rare value) ≤ profile.target_count rows
  few_targets distinct =
      let few = counted.few_targets word rows rare distinct in
      let cut = none_len (cut_pick word rows rare) (λ pc p e. let x = cut_as pc (cut_at word rows rare pc) p e in subst (λ (p : Premise). one_len p ≡ 0) x.1 refl) pcs in
      let dead = none_len (dead_pick word rows rare) (λ pc p e. let x = dead_as pc (is_dead word rows pc) p e in subst (λ (p : Premise). one_len p ≡ 0) x refl) pcs in
      let values = none_len (same_pick value) (λ pc p e. let x = same_as pc (value pc) p e in subst (λ (p : Premise). one_len p ≡ 0) x.2 refl) pcs in
      let e = sum_by-append one_len (cut_list ++ targets_list ++ dead_list ++ closing) same_list in
      let a = sum_by-append one_len (cut_list ++ targets_list ++ dead_list) closing in
      let b = sum_by-append one_len (cut_list ++ targets_list) dead_list in
      let d = sum_by-append one_len cut_list targets_list in
      let last : sum_by one_len closing ≡ 0 = refl in
      omega (arith, few, cut, dead, values, a, b, d, e, last)
