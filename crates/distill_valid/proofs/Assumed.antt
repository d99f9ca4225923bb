-- The list of assumptions is in its ranges, and in its order.
use Rattle.std.proofs.Common.{◌≡◌, ℕ, ◌+◌, ◌*◌, ◌<◌, ◌^◌, true, List, [], ◌∷◌, ◌++◌, map, filter_map, All, refl, sym, ap, ◌∙◌, subst, arith, Option, Some}
use Rattle.cells.specs.Cells.{IsPc}
use Rattle.std.specs.List.{AllByRecursion}
use Rattle.std.specs.List.Sorted.{IsStrictlyIncreasing}
use Rattle.std.proofs.lemmas.List.{map-append}
use Rattle.std.proofs.lemmas.List.Elements.{All-append, All-nil, All-cons}
use Rattle.rv_word.specs.Meaning.{meaning}
use Rattle.dist_image.specs.Image.{Premise, Code, Within, Span, IsPremise, key_of}
use Rattle.word_format.proofs.Rising.{Rises, increasing_from_rises}
use Rattle.profile_data.specs.Profile.{Tally, IsTally}
use Rattle.fitting.specs.Claims.{among}
use Rattle.distill_rules.specs.Analysed.{analysed, analysed_row}
use Rattle.distill_rules.specs.Cuts.{cut_at, is_dead}
use Rattle.distill_fits.proofs.Analysed.{analysed_rise, row_has}
use Rattle.distill_fits.proofs.Lists.{among_at}
use Rattle.distill_valid.proofs.Ordered.{AllBelow, rises_sooner, below_more, kind_rises, kind_below, all_rise}
use Rattle.distill_valid.proofs.Picked.{cut_pick, targets_pick, dead_pick, same_pick, all_listed}
use Rattle.distill_fits.proofs.Premises.{from_picked}
use Rattle.distill_valid.proofs.Tables.{each_at, all_at, from_due}
use Rattle.distill_fits.proofs.Listing as listing
use Rattle.distill_valid.proofs.Chosen.{targets_from, cut_as, targets_as, dead_as, same_as}

none_rise : IsStrictlyIncreasing []
none_rise = increasing_from_rises [] 0 tt

module _ (word : ℕ → ℕ) (rows : List Tally) (rare : ℕ) (value : ℕ → Option ℕ) where
  abbrev pcs : List ℕ
  pcs = analysed rows

  abbrev cut_list : List Premise
  cut_list = filter_map (cut_pick word rows rare) pcs

  abbrev targets_list : List Premise
  targets_list = filter_map (targets_pick word rows rare) pcs

  abbrev dead_list : List Premise
  dead_list = filter_map (dead_pick word rows rare) pcs

  abbrev closing : List Premise
  closing = Code ∷ Within ∷ Span ∷ []

  abbrev same_list : List Premise
  same_list = filter_map (same_pick value) pcs

  same_key : (pc : ℕ) (p : Premise) → same_pick value pc ≡ Some p → key_of p ≡ 6 * 2 ^ 32 + pc
  same_key pc p e = let x = same_as pc (value pc) p e in subst (λ (p : Premise). key_of p ≡ 6 * 2 ^ 32 + pc) x.2 (omega arith)

  cut_key : (pc : ℕ) (p : Premise) → cut_pick word rows rare pc ≡ Some p → key_of p ≡ 0 + pc
  cut_key pc p e = let x = cut_as pc (cut_at word rows rare pc) p e in subst (λ (p : Premise). key_of p ≡ 0 + pc) x.1 (omega arith)

  targets_key : (pc : ℕ) (p : Premise) → targets_pick word rows rare pc ≡ Some p → key_of p ≡ 2 ^ 32 + pc
  targets_key pc p e = let x = targets_as pc (listing.targets_of word rows pc) p e in subst (λ (p : Premise). key_of p ≡ 2 ^ 32 + pc) x.2 (omega arith)

  dead_key : (pc : ℕ) (p : Premise) → dead_pick word rows rare pc ≡ Some p → key_of p ≡ 2 * 2 ^ 32 + pc
  dead_key pc p e = let x = dead_as pc (is_dead word rows pc) p e in subst (λ (p : Premise). key_of p ≡ 2 * 2 ^ 32 + pc) x (omega arith)

  -- ---- ranges

  module _ (aligned : (q : ℕ) → among pcs q ≡ true → IsPc q) where
    each_picked : (pick : ℕ → Option Premise) → ((pc : ℕ) (p : Premise) → IsPc pc → pick pc ≡ Some p → IsPremise p) → All IsPremise (filter_map pick pcs)
    each_picked pick h = all_at IsPremise (filter_map pick pcs) (λ i p e.
        let x = from_picked pick pcs i p e in h x.0 p (aligned x.0 (among_at pcs x.1.0 x.0 x.1.1)) x.2)

    pub all_premises : AllByRecursion IsTally rows → ((pc v : ℕ) → value pc ≡ Some v → v < 2 ^ 32) → All IsPremise (all_listed word rows rare value)
    all_premises valid few =
        let zero_pc : IsPc 0 = (refl, omega arith) in
        let cut = each_picked (cut_pick word rows rare) (λ pc p ok e. let x = cut_as pc (cut_at word rows rare pc) p e in subst IsPremise x.1 (ok, omega arith, All-nil IsPc, none_rise)) in
        let targets = each_picked (targets_pick word rows rare) (λ pc p ok e.
        let x = targets_as pc (listing.targets_of word rows pc) p e in
        let t = targets_from (meaning (word pc)) (analysed_row rows pc) x.0 x.1 in
        let row = row_has IsTally rows valid pc t.0 t.1 in
        subst IsPremise x.2 (ok, omega arith, subst (All IsPc) t.2 row.targets, subst IsStrictlyIncreasing t.2 row.targets_rise)) in
        let dead = each_picked (dead_pick word rows rare) (λ pc p ok e. let x = dead_as pc (is_dead word rows pc) p e in subst IsPremise x (ok, omega arith, All-nil IsPc, none_rise)) in
        let last =
        All-cons IsPremise Code (Within ∷ Span ∷ []) (zero_pc, omega arith, All-nil IsPc, none_rise)
        (All-cons IsPremise Within (Span ∷ []) (zero_pc, omega arith, All-nil IsPc, none_rise)
        (All-cons IsPremise Span [] (zero_pc, omega arith, All-nil IsPc, none_rise) (All-nil IsPremise))) in
        let values = each_picked (same_pick value) (λ pc p ok e. let x = same_as pc (value pc) p e in subst IsPremise x.2 (ok, few pc x.0 x.1, All-nil IsPc, none_rise)) in
        All-append IsPremise (cut_list ++ targets_list ++ dead_list ++ closing) same_list
        (All-append IsPremise (cut_list ++ targets_list ++ dead_list) closing
        (All-append IsPremise (cut_list ++ targets_list) dead_list (All-append IsPremise cut_list targets_list cut targets) dead) last) values

    -- ---- order

    below : AllBelow (2 ^ 32) pcs
    below = each_at (λ q. q < 2 ^ 32) pcs (λ i q e. (aligned q (among_at pcs i q e)).1)

    rise : Rises 0 pcs
    rise = from_due pcs (analysed_rise rows)

    pub all_increase : IsStrictlyIncreasing (map key_of (all_listed word rows rare value))
    all_increase =
        let a = kind_rises (cut_pick word rows rare) 0 cut_key 0 pcs rise in
        let a_below = kind_below (cut_pick word rows rare) 0 cut_key (2 ^ 32) pcs below in
        let b = kind_rises (targets_pick word rows rare) (2 ^ 32) targets_key 0 pcs rise in
        let b_below = kind_below (targets_pick word rows rare) (2 ^ 32) targets_key (2 ^ 32) pcs below in
        let d = kind_rises (dead_pick word rows rare) (2 * 2 ^ 32) dead_key 0 pcs rise in
        let d_below = kind_below (dead_pick word rows rare) (2 * 2 ^ 32) dead_key (2 ^ 32) pcs below in
        let last : Rises (3 * 2 ^ 32) (map key_of closing) = (omega arith, (omega arith, (omega arith, tt))) in
        let last_below : AllBelow (6 * 2 ^ 32) (map key_of closing) = (omega arith, (omega arith, (omega arith, tt))) in
        let g = kind_rises (same_pick value) (6 * 2 ^ 32) same_key 0 pcs rise in
        let keys =
        map-append key_of (cut_list ++ targets_list ++ dead_list ++ closing) same_list
        ∙ ap (λ xs. xs ++ map key_of same_list)
        (map-append key_of (cut_list ++ targets_list ++ dead_list) closing
        ∙ ap (λ xs. xs ++ map key_of closing)
        (map-append key_of (cut_list ++ targets_list) dead_list ∙ ap (λ xs. xs ++ map key_of dead_list) (map-append key_of cut_list targets_list))) in
        increasing_from_rises (map key_of (all_listed word rows rare value)) 0
        (subst (Rises 0) (sym keys)
        (all_rise (2 ^ 32) (map key_of cut_list) (map key_of targets_list) (map key_of dead_list) (map key_of closing) (map key_of same_list)
        (rises_sooner 0 (0 + 0) (map key_of cut_list) (omega arith) a) (below_more (0 + 2 ^ 32) (2 ^ 32) (map key_of cut_list) (omega arith) a_below)
        (rises_sooner (2 ^ 32) (2 ^ 32 + 0) (map key_of targets_list) (omega arith) b) (below_more (2 ^ 32 + 2 ^ 32) (2 * 2 ^ 32) (map key_of targets_list) (omega arith) b_below)
        (rises_sooner (2 * 2 ^ 32) (2 * 2 ^ 32 + 0) (map key_of dead_list) (omega arith) d) (below_more (2 * 2 ^ 32 + 2 ^ 32) (3 * 2 ^ 32) (map key_of dead_list) (omega arith) d_below)
        last last_below (rises_sooner (6 * 2 ^ 32) (6 * 2 ^ 32 + 0) (map key_of same_list) (omega arith) g)))
