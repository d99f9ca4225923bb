-- Which pcs are anchors'.
use Rattle.std.proofs.Common.{◌≡◌, ℕ, ◌+◌, suc, Bool, true, false, cond, List, [], ◌∷◌, ◌++◌, map, refl, sym, ap, ◌∙◌, arith, eqb, ⊎_elim, ◌||◌, ◌&&◌, Option, Some, is_some, length}
use Rattle.std.specs.List.{slice_get, flat_map}
use Rattle.std.specs.Option.{option_map}
use Rattle.std.proofs.lemmas.Bool.{cases_Bool, eqb-true}
use Rattle.profile_data.specs.Profile.{Tally}
use Rattle.dist_image.specs.declared.image.Anchor.{Anchor}
use Rattle.dist_image.specs.Image.{Distilled, anchor_from}
use Rattle.image_semantics.specs.World.{entry}
use Rattle.fitting.specs.Claims.{among}
use Rattle.fitting.specs.Fits.{is_anchor_pc}
use Rattle.distill_rules.specs.declared.Mask.{Mask}
use Rattle.distill_rules.specs.Cuts.{Cuts}
use Rattle.layout_rules.specs.Layout.{laid, lays, fork, anchors_of}
use Rattle.distill_fits.proofs.Sites.{plot_at}

-- an anchor's number is one of the list's, so it is found there
abbrev count_at : List Anchor → Option ℕ → Option ℕ
count_at xs o = option_map (λ (a : Anchor). a.count) (entry xs o)

found_from : (i : ℕ) (as' : List Anchor) (q : ℕ) (all : List Anchor) → ((k : ℕ) → slice_get all (i + k) ≡ slice_get as' k)
    → is_some (count_at all (anchor_from i as' q)) ≡ among (map (λ (a : Anchor). a.pc) as') q
found_from i [] q all h = refl
found_from i (a ∷ as') q all h =
    at_first (eqb a.pc q) (found_from (i + 1) as' q all (λ k. let at : (i + 1) + k ≡ i + suc k = omega arith in ap (slice_get all) at ∙ h (suc k)))
  where
    here : is_some (count_at all (Some i)) ≡ true
    here = let at : i ≡ i + 0 = omega arith in ap (λ o. is_some (option_map (λ (a : Anchor). a.count) o)) (ap (slice_get all) at ∙ h 0)

    at_first : (b : Bool) → is_some (count_at all (anchor_from (i + 1) as' q)) ≡ among (map (λ (a : Anchor). a.pc) as') q
        → is_some (count_at all (cond b (Some i) (anchor_from (i + 1) as' q))) ≡ (b || among (map (λ (a : Anchor). a.pc) as') q)
    at_first true rest = here
    at_first false rest = rest

pub is_anchor_among : (image : Distilled) (q : ℕ) → is_anchor_pc image q ≡ among (map (λ (a : Anchor). a.pc) image.anchors) q
is_anchor_among image q = found_from 0 image.anchors q image.anchors (λ k. let at : 0 + k ≡ k = omega arith in ap (slice_get image.anchors) at)

join : (e a m : Bool) → ((a && e) || (m && a)) ≡ ((e || m) && a)
join true true true = refl
join true true false = refl
join true false true = refl
join true false false = refl
join false true true = refl
join false true false = refl
join false false true = refl
join false false false = refl

abbrev anchor_pcs : List Anchor → List ℕ
anchor_pcs as' = map (λ (a : Anchor). a.pc) as'

front_anchor : (a : Bool) (x : Anchor) (rest : List Anchor) (q : ℕ) → among (anchor_pcs ((cond a (x ∷ []) []) ++ rest)) q ≡ ((a && eqb x.pc q) || among (anchor_pcs rest) q)
front_anchor true x rest q = refl
front_anchor false x rest q = refl

same_and : (begun : List ℕ) (n q : ℕ) → (among begun n && eqb n q) ≡ (among begun q && eqb n q)
same_and begun n q =
    ⊎_elim
    (λ (e : eqb n q ≡ true). ap (λ m. among begun m && eqb n q) (eqb-true n q e))
    (λ (e : eqb n q ≡ false). ap (λ b. among begun n && b) e ∙ no (among begun n) (among begun q) ∙ ap (λ b. among begun q && b) (sym e))
    (cases_Bool (eqb n q))
  where
    no : (a b : Bool) → (a && false) ≡ (b && false)
    no true true = refl
    no true false = refl
    no false true = refl
    no false false = refl

module _ (word : ℕ → ℕ) (rows : List Tally) (c : Cuts) (begun : List ℕ) (t : List Mask) (known : ℕ → Bool) (count : ℕ) where
  abbrev pub anchors_from : ℕ → ℕ → List ℕ → List Anchor
  anchors_from slot number qs = flat_map (anchors_of count) (laid known slot number (map (plot_at word rows c begun t) qs))

  pub among_anchors : (qs : List ℕ) (slot number q : ℕ) → among (anchor_pcs (anchors_from slot number qs)) q ≡ (among qs q && among begun q)
  among_anchors [] slot number q = refl
  among_anchors (n ∷ ns) slot number q =
      let more = slot + length (lays known (plot_at word rows c begun t n) number) in
      let next = number + length (fork (plot_at word rows c begun t n) number) in
      front_anchor (among begun n) (record { pc = n; slot = slot; count = count }) (anchors_from more next ns) q
      ∙ ap (λ b. (among begun n && eqb n q) || b) (among_anchors ns more next q)
      ∙ ap (λ b. b || (among ns q && among begun q)) (same_and begun n q)
      ∙ join (eqb n q) (among begun q) (among ns q)
