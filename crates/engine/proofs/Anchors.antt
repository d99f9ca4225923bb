-- Anchors of an image: the one at a pc, and the one of a Fork.
use Rattle.std.proofs.Common.{◌≡◌, ℕ, ◌+◌, ◌<◌, ◌≤◌, suc, zero, Bool, true, false, cond, List, [], ◌∷◌, length, Option, Some, None, refl, sym, ap, ◌∙◌, subst, arith}
use Rattle.std.specs.Prelude.{slice_get, nat_eq}
use Rattle.std.specs.Option.{option_map}
use Rattle.std.proofs.lemmas.Bool.{eqb-true}
use Rattle.std.proofs.lemmas.Option.{get_or_from_slice_get, slice_get_within}
use Rattle.dist_image.specs.declared.image.Slot.TheVariants.{Fork}
use Rattle.dist_image.specs.declared.image.Anchor.{Anchor}
use Rattle.dist_image.specs.Image.{Distilled, IsImage, IsSlot, IsAnchor, anchor_from, anchor_at}
use Rattle.image_semantics.specs.World.{anchor_of, count_of, entry}
use Rattle.image_semantics.proofs.Found.{found}

-- anchors are numbered from i on
from_least : (i : ℕ) (anchors : List Anchor) (pc m : ℕ) → anchor_from i anchors pc ≡ Some m → i ≤ m
from_least i [] pc m e = absurd (cc)
from_least i (a ∷ more) pc m e = least_if_there (nat_eq a.pc pc) e (from_least (i + 1) more pc m)
  where
    least_if_there : (b : Bool) → cond b (Some i) (anchor_from (i + 1) more pc) ≡ Some m → (anchor_from (i + 1) more pc ≡ Some m → i + 1 ≤ m) → i ≤ m
    least_if_there true is later = let same : i ≡ m = cc in omega (arith, same)
    least_if_there false is later = let l = later is in omega (arith, l)

from_is : (i : ℕ) (anchors : List Anchor) (pc k : ℕ) (a : Anchor) → anchor_from i anchors pc ≡ Some (i + k) → slice_get anchors k ≡ Some a → a.pc ≡ pc
from_is i [] pc k a e at = absurd (cc)
from_is i (b ∷ more) pc zero a e at = first_if_there (nat_eq b.pc pc) refl e
  where
    is : b ≡ a
    is = cc

    first_if_there : (t : Bool) → nat_eq b.pc pc ≡ t → cond t (Some i) (anchor_from (i + 1) more pc) ≡ Some (i + 0) → a.pc ≡ pc
    first_if_there true same h = ap (λ (x : Anchor). x.pc) (sym is) ∙ eqb-true b.pc pc same
    first_if_there false same h = let l = from_least (i + 1) more pc (i + 0) h in absurd (omega (arith, l))
from_is i (b ∷ more) pc (suc k) a e at = later_if_there (nat_eq b.pc pc) e (from_is (i + 1) more pc k a)
  where
    later_if_there : (t : Bool) → cond t (Some i) (anchor_from (i + 1) more pc) ≡ Some (i + suc k) → (anchor_from (i + 1) more pc ≡ Some (i + 1 + k) → slice_get more k ≡ Some a → a.pc ≡ pc) → a.pc ≡ pc
    later_if_there true h later = let same : i ≡ i + suc k = cc in absurd (omega (arith, same))
    later_if_there false h later = let shift : i + suc k ≡ i + 1 + k = omega arith in later (h ∙ ap Some shift) at

module _ (image : Distilled) (ok : IsImage image) where
  -- an anchor of the image is an anchor
  pub anchor_fits : (k : ℕ) (a : Anchor) → slice_get image.anchors k ≡ Some a → IsAnchor 1_048_576 a
  anchor_fits k a at =
      let is : IsAnchor (length image.slots) a = subst (IsAnchor (length image.slots)) (get_or_from_slice_get image.anchors k a a at) (ok.anchors k a (slice_get_within image.anchors k a at)) in
      let slot = is.1 in
      let few = ok.few_slots in
      (is.0, omega (arith, slot, few), is.2, is.3)

  -- the anchor at a pc has this pc
  pub anchor_pc : (k pc : ℕ) (a : Anchor) → anchor_at image pc ≡ Some k → slice_get image.anchors k ≡ Some a → a.pc ≡ pc
  anchor_pc k pc a e at = from_is 0 image.anchors pc k a (let z : k ≡ 0 + k = omega arith in e ∙ ap Some z) at

  pub anchor_there : (pc : ℕ) (a : Anchor) → anchor_of image pc ≡ Some a → a.pc ≡ pc
  anchor_there pc a at = there_at (anchor_at image pc) refl at
    where
      there_at : (o : Option ℕ) → anchor_at image pc ≡ o → entry image.anchors o ≡ Some a → a.pc ≡ pc
      there_at None is h = absurd (cc)
      there_at (Some k) is h = anchor_pc k pc a is h

  -- the world's count at the pc of an anchor is that anchor's
  pub anchor_count : (k : ℕ) (a : Anchor) → slice_get image.anchors k ≡ Some a → count_of image a.pc ≡ Some a.count
  anchor_count k a at = ap (λ (o : Option ℕ). option_map (λ (x : Anchor). x.count) (entry image.anchors o)) (found image ok k a at) ∙ ap (option_map (λ (x : Anchor). x.count)) at

  -- a Fork names an anchor
  pub fork_names : (i k : ℕ) → slice_get image.slots i ≡ Some (Fork k) → k < length image.anchors
  fork_names i k at =
      subst (IsSlot (length image.anchors)) (get_or_from_slice_get image.slots i (Fork k) (Fork k) at) (ok.slots i (Fork k) (slice_get_within image.slots i (Fork k) at))
