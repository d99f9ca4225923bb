-- The anchors and their Fork slots.
use Rattle.std.proofs.Common.{◌≡◌, ℕ, ◌+◌, ◌-◌, ◌<◌, ◌≤◌, zero, suc, Bool, true, false, cond, List, [], ◌∷◌, ◌++◌, length, refl, sym, ap, ◌∙◌, arith, ⊎_elim, Some}
use Rattle.std.specs.List.{slice_get, flat_map}
use Rattle.std.proofs.lemmas.Bool.{cases_lt, cond-true}
use Rattle.dist_image.specs.declared.image.Slot.{Slot}
use Rattle.dist_image.specs.declared.image.Slot.TheVariants.{Fork}
use Rattle.dist_image.specs.declared.image.Anchor.{Anchor}
use Rattle.layout_rules.specs.declared.SlotPlan.{SlotPlan}
use Rattle.layout_rules.specs.Layout.{body, fork, Laid, laid, slots_of, lays, anchors_of}
use Rattle.distill_fits.proofs.Places.{stands, get_left, get_right}

module _ (known : ℕ → Bool) (count : ℕ) where
  pub as_many : (a : Bool) (f : Slot) (x : Anchor) → length (cond a (x ∷ []) []) ≡ length (cond a (f ∷ []) [])
  as_many true f x = refl
  as_many false f x = refl

  first_only : (a : Bool) (x y : Anchor) (k : ℕ) → slice_get (cond a (x ∷ []) []) k ≡ Some y → (a ≡ true) × (k ≡ 0) × (y ≡ x)
  first_only true x y zero e = (refl, refl, cc)
  first_only true x y (suc k) e = cc
  first_only false x y k e = cc

  -- an anchor is that of an entry
  pub anchor_from : (ps : List SlotPlan) (s n k : ℕ) (a : Anchor) → slice_get (flat_map (anchors_of count) (laid known s n ps)) k ≡ Some a
      → (i : ℕ) × (l : Laid) × (slice_get (laid known s n ps) i ≡ Some l) × (l.plot.is_anchor ≡ true) × (l.number ≡ n + k) × (a.pc ≡ l.plot.pc) × (a.slot ≡ l.slot)
  anchor_from [] s n k a e = cc
  anchor_from (p ∷ ps) s n k a e =
      let here : Laid = record { plot = p; slot = s; number = n } in
      let x : Anchor = record { pc = p.pc; slot = s; count = count } in
      let mine = anchors_of count here in
      let others = flat_map (anchors_of count) (laid known (s + length (lays known p n)) (n + length (fork p n)) ps) in
      let many : length mine ≡ length (fork p n) = as_many p.is_anchor (Fork n) x in
      ⊎_elim
      (λ (h : k < length mine).
      let y = first_only p.is_anchor x a k (sym (get_left mine others k h) ∙ e) in
      (0, here, refl, y.0, omega (arith, y.1), ap (λ (z : Anchor). z.pc) y.2, ap (λ (z : Anchor). z.slot) y.2))
      (λ (h : length mine ≤ k).
      let y = anchor_from ps (s + length (lays known p n)) (n + length (fork p n)) (k - length mine) a (sym (get_right mine others (k - length mine) k (omega (arith, h))) ∙ e) in
      (suc y.0, y.1, y.2, y.3, omega (arith, y.4, many, h), y.5, y.6))
      (cases_lt k (length mine))

  -- an anchor's first slot is its Fork
  pub fork_at : (ps : List SlotPlan) (i : ℕ) (l : Laid) → slice_get (laid known 0 0 ps) i ≡ Some l → l.plot.is_anchor ≡ true
      → slice_get (flat_map (slots_of known) (laid known 0 0 ps)) l.slot ≡ Some (Fork l.number)
  fork_at ps i l e h =
      let front : fork l.plot l.number ≡ Fork l.number ∷ [] = cond-true l.plot.is_anchor _ [] h in
      let whole : slots_of known l ≡ Fork l.number ∷ body known l.plot = ap (λ xs. xs ++ body known l.plot) front in
      let long : length (slots_of known l) ≡ suc (length (body known l.plot)) = ap length whole in
      stands known ps 0 0 i l e 0 l.slot (omega (arith, long)) (omega arith) ∙ ap (λ xs. slice_get xs 0) whole
