-- That an image is one has one proof at most, as has each part of it that goes by cases.
use Rattle.std.proofs.Common.{◌≡◌, ℕ, ◌⊎◌, inl, inr, sym, ap, ◌∙◌}
use Rattle.std.specs.Coded.{le_prop, Coded-set, coded_ℕ, coded_list}
use Rattle.dist_image.specs.declared.image.Slot.{Slot}
use Rattle.dist_image.specs.declared.image.Slot.TheVariants as slot
use Rattle.dist_image.specs.Image.{Premise, Cut, Targets, Dead, Code, Within, Span, Same, Distilled, IsImage, IsSlot, IsKnownAtFirst}

-- that a slot is in range says nothing but that
pub IsSlot-prop : (anchors : ℕ) (s : Slot) → IsProp (IsSlot anchors s)
IsSlot-prop anchors (slot.Exec origin word) = hlevel (le_prop, Coded-set coded_ℕ)
IsSlot-prop anchors (slot.Go target) = hlevel (le_prop, Coded-set coded_ℕ)
IsSlot-prop anchors (slot.Fork anchor) = le_prop

-- that an assumption is one of version 1 says nothing but that
pub IsKnownAtFirst-prop : (p : Premise) → IsProp (IsKnownAtFirst p)
IsKnownAtFirst-prop (Cut at taken) = hlevel
IsKnownAtFirst-prop (Targets at to) = hlevel
IsKnownAtFirst-prop (Dead at) = hlevel
IsKnownAtFirst-prop Code = hlevel
IsKnownAtFirst-prop Within = hlevel
IsKnownAtFirst-prop Span = hlevel
IsKnownAtFirst-prop (Same at value) = hlevel

differ : ◌≡◌ {A = ℕ} 1 2 → ⊥
differ e = cc

-- that a version is 1 or 2 says nothing but that
pub version-prop : (v : ℕ) → IsProp ((v ≡ 1) ⊎ (v ≡ 2))
version-prop v (inl a) (inl b) = ap inl (Coded-set coded_ℕ v 1 a b)
version-prop v (inr a) (inr b) = ap inr (Coded-set coded_ℕ v 2 a b)
version-prop v (inl a) (inr b) = absurd (differ (sym a ∙ b))
version-prop v (inr a) (inl b) = absurd (differ (sym b ∙ a))

-- that an image is valid says nothing but that
pub IsImage-prop : (image : Distilled) → IsProp (IsImage image)
IsImage-prop image = hlevel (le_prop, Coded-set coded_ℕ, Coded-set (coded_list coded_ℕ), version-prop, IsKnownAtFirst-prop, IsSlot-prop)
