-- What stands at an instruction's body place.
use Rattle.std.proofs.Common.{◌≡◌, ℕ, ◌+◌, ◌<◌, ◌≤◌, ◌%◌, ◌^◌, zero, suc, Bool, true, false, cond, ◌&&◌, List, [], ◌∷◌, length, sym, ap, ◌∙◌, arith, inl, inr, ⊎_elim, ◌⊎◌, eqb, Some}
use Rattle.std.specs.List.{slice_get}
use Rattle.std.specs.Prelude.{nat_lt}
use Rattle.std.proofs.lemmas.Bool.{cases_Bool, eqb-true, ltb-true, cond-true, cond-false, and_parts}
use Rattle.std.proofs.lemmas.Option.{slice_get_within}
use Rattle.dist_image.specs.declared.image.Slot.TheVariants.{Exec, Go}
use Rattle.layout_rules.specs.declared.SlotPlan.{SlotPlan}
use Rattle.layout_rules.specs.Layout.{is_laid, body, fork, Laid, all_laid, slots}
use Rattle.distill_fits.proofs.Places.{body_at, next_at, exec_at, plot_at, laid_at}
use Rattle.distill_fits.proofs.Next.{IsOrdered, entry, one_entry, next_entry}

module _ (ps : List SlotPlan) (ordered : IsOrdered ps) where
  abbrev place : Laid → ℕ
  place l = l.slot + length (fork l.plot l.number)

  abbrev test : SlotPlan → Bool
  test p = eqb p.on ((p.pc + 4) % 2 ^ 32) && (nat_lt p.pc p.on && is_laid ps p.on)

  pub kept_place : (i : ℕ) (l : Laid) → slice_get (all_laid ps) i ≡ Some l → l.plot.kept ≡ true → slice_get (slots ps) (place l) ≡ Some (Exec l.plot.pc l.plot.word)
  kept_place i l e h = body_at (is_laid ps) ps i l (Exec l.plot.pc l.plot.word) e (cond-true l.plot.kept _ (cond (test l.plot) [] (Go l.plot.on ∷ [])) h)

  -- the entry of q begins at this place
  abbrev pub Begins : ℕ → ℕ → Type 0
  Begins q at = (j : ℕ) × (m : Laid) × (slice_get (all_laid ps) j ≡ Some m) × (m.plot.pc ≡ q) × (m.slot ≡ at)

  -- the entry of the next plot begins where a body that is nothing stands
  behind : (i : ℕ) (l : Laid) (p : SlotPlan) (q : ℕ) → slice_get (all_laid ps) i ≡ Some l → slice_get ps (suc i) ≡ Some p → p.pc ≡ q → body (is_laid ps) l.plot ≡ []
      → (m : Laid) × (slice_get (all_laid ps) (suc i) ≡ Some m) × (m.plot.pc ≡ q) × (m.slot ≡ place l)
  behind i l p q e f same none =
      let m = laid_at (is_laid ps) ps 0 0 (suc i) p f in
      (m.0, m.1, ap (λ (p : SlotPlan). p.pc) m.2 ∙ same, next_at (is_laid ps) ps i l m.0 e m.1 none)

  next_is : (i : ℕ) (l : Laid) → slice_get (all_laid ps) i ≡ Some l → l.plot.kept ≡ false → test l.plot ≡ true
      → (m : Laid) × (slice_get (all_laid ps) (suc i) ≡ Some m) × (m.plot.pc ≡ l.plot.on) × (m.slot ≡ place l)
  next_is i l e h t =
      let ab = and_parts (eqb l.plot.on ((l.plot.pc + 4) % 2 ^ 32)) (nat_lt l.plot.pc l.plot.on && is_laid ps l.plot.on) t in
      let parts = and_parts (nat_lt l.plot.pc l.plot.on) (is_laid ps l.plot.on) ab.1 in
      let after = eqb-true _ _ ab.0 in
      let above = ltb-true _ _ parts.0 in
      let there = plot_at (is_laid ps) ps 0 0 i l e in
      let fit = (ordered.aligned i l.plot there).1 in
      let x = entry ps l.plot.on parts.1 in
      let four : x.1.pc ≡ l.plot.pc + 4 = omega (arith, x.3, after, above, fit) in
      let at = next_entry ps ordered i x.0 l.plot x.1 there x.2 four in
      let none : body (is_laid ps) l.plot ≡ [] = cond-false l.plot.kept _ (cond (test l.plot) [] (Go l.plot.on ∷ [])) h ∙ cond-true (test l.plot) [] (Go l.plot.on ∷ []) t in
      behind i l x.1 l.plot.on e (sym (ap (slice_get ps) at) ∙ x.2) x.3 none

  next_begins : (i : ℕ) (l : Laid) → slice_get (all_laid ps) i ≡ Some l → l.plot.kept ≡ false → test l.plot ≡ true → Begins l.plot.on (place l)
  next_begins i l e h t = let x = next_is i l e h t in (suc i, x.0, x.1, x.2, x.3)

  pub removed_place : (i : ℕ) (l : Laid) → slice_get (all_laid ps) i ≡ Some l → l.plot.kept ≡ false
      → (slice_get (slots ps) (place l) ≡ Some (Go l.plot.on)) ⊎ Begins l.plot.on (place l)
  removed_place i l e h =
      ⊎_elim
      (λ (t : test l.plot ≡ true). inr (next_begins i l e h t))
      (λ (t : test l.plot ≡ false).
      inl (body_at (is_laid ps) ps i l (Go l.plot.on) e
      (cond-false l.plot.kept _ (cond (test l.plot) [] (Go l.plot.on ∷ [])) h ∙ cond-false (test l.plot) [] (Go l.plot.on ∷ []) t)))
      (cases_Bool (test l.plot))

  -- no removed instruction's word is done there
  pub removed_not_done : (i k w : ℕ) (l : Laid) → slice_get (all_laid ps) i ≡ Some l → l.plot.kept ≡ false → slice_get (slots ps) k ≡ Some (Exec l.plot.pc w) → ⊥
  removed_not_done i k w l e h f =
      let x = exec_at (is_laid ps) ps 0 0 k l.plot.pc w f in
      let there = plot_at (is_laid ps) ps 0 0 i l e in
      let at = one_entry ps ordered i x.0 l.plot x.1 there x.2 (sym x.4) in
      let same : Some l.plot ≡ Some x.1 = sym there ∙ ap (slice_get ps) at ∙ x.2 in
      let is : l.plot ≡ x.1 = cc in
      let kept : x.1.kept ≡ false = sym (ap (λ (p : SlotPlan). p.kept) is) ∙ h in
      let no : x.1.kept ≡ true = x.3 in
      cc

  -- each entry's number is that of a slot
  in_range : (fuel i : ℕ) (l : Laid) → length ps ≤ i + fuel → slice_get (all_laid ps) i ≡ Some l → l.slot < length (slots ps)
  in_range zero i l h e = let w = slice_get_within ps i l.plot (plot_at (is_laid ps) ps 0 0 i l e) in absurd (omega (arith, w, h))
  in_range (suc fuel) i l h e =
      ⊎_elim
      (λ (k : l.plot.kept ≡ true). let w = slice_get_within (slots ps) (place l) _ (kept_place i l e k) in omega (arith, w))
      (λ (k : l.plot.kept ≡ false).
      ⊎_elim
      (λ (t : test l.plot ≡ true).
      let x = next_is i l e k t in
      let rest = in_range fuel (suc i) x.0 (omega (arith, h)) x.1 in
      let at = x.3 in
      omega (arith, rest, at))
      (λ (t : test l.plot ≡ false).
      let go = body_at (is_laid ps) ps i l (Go l.plot.on) e
      (cond-false l.plot.kept _ (cond (test l.plot) [] (Go l.plot.on ∷ [])) k ∙ cond-false (test l.plot) [] (Go l.plot.on ∷ []) t) in
      let w = slice_get_within (slots ps) (place l) _ go in omega (arith, w))
      (cases_Bool (test l.plot)))
      (cases_Bool l.plot.kept)

  pub slot_in_range : (i : ℕ) (l : Laid) → slice_get (all_laid ps) i ≡ Some l → l.slot < length (slots ps)
  slot_in_range i l e = in_range (length ps) i l (omega arith) e
