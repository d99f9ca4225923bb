-- Between two anchors that follow one another stands none.
use Rattle.std.proofs.Common.{◌≡◌, ℕ, zero, suc, ◌+◌, ◌-◌, ◌<◌, ◌≤◌, ◌≢◌, false, List, [], ◌∷◌, length, get_or, map, None, is_some, refl, sym, ap, subst, ◌∙◌, inl, inr, arith}
use Rattle.std.specs.List.Sorted.{IsStrictlyIncreasing}
use Rattle.std.proofs.lemmas.Bool.{cases_lt}
use Rattle.std.proofs.lemmas.Bool.Decides.{nat_tests}
use Rattle.std.proofs.lemmas.List.{get_or-map, length-map}
use Rattle.dist_image.specs.declared.image.Anchor.{Anchor}
use Rattle.dist_image.specs.Image.{Distilled, IsImage, anchor_from, anchor_at}
use Rattle.dist_image.proofs.Search.{rising, no_anchor}

-- no anchor is found at a pc that none has
absent : (from pc : ℕ) (xs : List Anchor) → ((j : ℕ) → j < length xs → (get_or xs j no_anchor).pc ≢ pc) → anchor_from from xs pc ≡ None
absent from pc [] none = refl
absent from pc (x ∷ xs) none =
    let tail : (j : ℕ) → j < length xs → (get_or xs j no_anchor).pc ≢ pc = λ j lt. none (suc j) (omega (arith, lt)) in
    grind (arith, nat_tests, none 0 (omega arith), absent (from + 1) pc xs tail)

-- an anchor that there is, whatever stands in place of one past the end
there : (xs : List Anchor) (k : ℕ) (d e : Anchor) → k < length xs → get_or xs k d ≡ get_or xs k e
there [] k d e l = absurd (omega (arith, l))
there (x ∷ xs) zero d e l = refl
there (x ∷ xs) (suc k) d e l = there xs k d e (omega (arith, l))

-- the anchor at this place stands below the pc, and above it
abbrev pub StandsBelow : List Anchor → ℕ → ℕ → Type 0
StandsBelow anchors k pc = (a : Anchor) × (a ≡ get_or anchors k a) × (a.pc < pc)

abbrev pub StandsAbove : List Anchor → ℕ → ℕ → Type 0
StandsAbove anchors k pc = (a : Anchor) × (a ≡ get_or anchors k a) × (pc < a.pc)

-- so many anchors stand below the pc, and the next one above it
module _ (image : Distilled) (is_image : IsImage image) (anchors : List Anchor) (same : anchors ≡ image.anchors) (pc below : ℕ) where
  abbrev pc_of : ℕ → ℕ
  pc_of k = (get_or anchors k no_anchor).pc

  pcs_rise : IsStrictlyIncreasing (map (λ (a : Anchor). a.pc) anchors)
  pcs_rise = subst (λ (xs : List Anchor). IsStrictlyIncreasing (map (λ (a : Anchor). a.pc) xs)) (sym same) is_image.anchors_rise

  rise : (j k : ℕ) → j < k → k < length anchors → pc_of j < pc_of k
  rise j k l within =
      let len = length-map anchors (λ (a : Anchor). a.pc) in
      let at_j = get_or-map (λ (a : Anchor). a.pc) anchors j no_anchor 0 (omega (arith, l, within)) in
      let at_k = get_or-map (λ (a : Anchor). a.pc) anchors k no_anchor 0 within in
      let up = rising (map (λ (a : Anchor). a.pc) anchors) pcs_rise j k l (omega (arith, len, within)) in
      omega (arith, at_j, at_k, up)

  pc_there : (k : ℕ) (a : Anchor) → k < length anchors → a ≡ get_or anchors k a → a.pc ≡ pc_of k
  pc_there k a within at = ap (λ (x : Anchor). x.pc) (at ∙ there anchors k a no_anchor within)

  module _ (few : below ≤ length anchors) (last : 0 < below → StandsBelow anchors (below - 1) pc) (next : below < length anchors → StandsAbove anchors below pc) where
    last_below : 0 < below → pc_of (below - 1) < pc
    last_below some = let (a, at, l) = last some in let is = pc_there (below - 1) a (omega (arith, some, few)) at in omega (arith, is, l)

    next_above : below < length anchors → pc < pc_of below
    next_above more = let (a, at, l) = next more in let is = pc_there below a more at in omega (arith, is, l)

    elsewhere : (j : ℕ) → j < length anchors → pc_of j ≢ pc
    elsewhere j within is = elim (cases_lt j below) [
      | inl under ↦ elim (cases_lt j (below - 1)) [
        | inl before ↦
            let up = rise j (below - 1) before (omega (arith, under, few)) in let l = last_below (omega (arith, under)) in omega (arith, up, l, is)
        | inr after ↦
            let here : j ≡ below - 1 = omega (arith, under, after) in
            let l = last_below (omega (arith, under)) in
            let at = ap pc_of here in
            omega (arith, at, l, is)
      ]
      | inr over ↦ elim (cases_lt below j) [
        | inl before ↦ let up = rise below j before within in let l = next_above (omega (arith, before, within)) in omega (arith, up, l, is)
        | inr after ↦
            let here : j ≡ below = omega (arith, over, after) in
            let l = next_above (omega (arith, here, within)) in
            let at = ap pc_of here in
            omega (arith, at, l, is)
      ]
    ]

    pub none_between : is_some (anchor_at image pc) ≡ false
    none_between = ap (λ (xs : List Anchor). is_some (anchor_from 0 xs pc)) (sym same) ∙ ap is_some (absent 0 pc anchors elsewhere)
