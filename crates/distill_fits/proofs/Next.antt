-- Which instruction comes next in a list whose pcs rise.
use Rattle.std.proofs.Common.{◌≡◌, ℕ, ◌+◌, ◌<◌, ◌≤◌, ◌%◌, ◌^◌, zero, suc, true, false, ◌||◌, List, [], ◌∷◌, length, refl, sym, ap, ◌∙◌, subst, arith, ⊎_elim, eqb, Some}
use Rattle.std.specs.List.{slice_get}
use Rattle.std.proofs.lemmas.Bool.{cases_lt, cases_Bool, cases_order, eqb-true}
use Rattle.std.proofs.lemmas.Option.{slice_get_within}
use Rattle.layout_rules.specs.declared.SlotPlan.{SlotPlan}
use Rattle.layout_rules.specs.Layout.{is_laid}

-- the pcs rise along the list, and are places of instructions
pub record IsOrdered (ps : List SlotPlan) : Type 0 where
  pub rises : (i j : ℕ) (p q : SlotPlan) → slice_get ps i ≡ Some p → slice_get ps j ≡ Some q → i < j → p.pc < q.pc
  pub aligned : (i : ℕ) (p : SlotPlan) → slice_get ps i ≡ Some p → (p.pc % 4 ≡ 0) × (p.pc < 2 ^ 32)

-- a pc that is laid has an entry
pub entry : (ps : List SlotPlan) (q : ℕ) → is_laid ps q ≡ true → (j : ℕ) × (p : SlotPlan) × (slice_get ps j ≡ Some p) × (p.pc ≡ q)
entry [] q h = cc
entry (p ∷ ps) q h =
    ⊎_elim
    (λ (e : eqb p.pc q ≡ true). (0, p, refl, eqb-true p.pc q e))
    (λ (e : eqb p.pc q ≡ false). let x = entry ps q (subst (λ b. (b || is_laid ps q) ≡ true) e h) in (suc x.0, x.1, x.2, x.3))
    (cases_Bool (eqb p.pc q))

entry_below : (ps : List SlotPlan) (i : ℕ) → i < length ps → (p : SlotPlan) × (slice_get ps i ≡ Some p)
entry_below [] i l = absurd (omega arith)
entry_below (p ∷ ps) zero l = (p, refl)
entry_below (p ∷ ps) (suc i) l = entry_below ps i (omega arith)

module _ (ps : List SlotPlan) (ordered : IsOrdered ps) where
  -- each pc has one entry
  pub one_entry : (i j : ℕ) (p q : SlotPlan) → slice_get ps i ≡ Some p → slice_get ps j ≡ Some q → p.pc ≡ q.pc → i ≡ j
  one_entry i j p q e f same =
      ⊎_elim (λ (h : i ≡ j). h)
      (⊎_elim (λ (h : i < j). let x = ordered.rises i j p q e f h in absurd (omega (arith, x, same))) (λ (h : j < i). let x = ordered.rises j i q p f e h in absurd (omega (arith, x, same))))
      (cases_order i j)

  -- the word after it is the next entry
  pub next_entry : (i j : ℕ) (p q : SlotPlan) → slice_get ps i ≡ Some p → slice_get ps j ≡ Some q → q.pc ≡ p.pc + 4 → j ≡ suc i
  next_entry i j p q e f four =
      ⊎_elim
      (λ (h : j ≡ suc i). h)
      (⊎_elim
      (λ (h : j < suc i).
      ⊎_elim
      (λ (l : j < i). let x = ordered.rises j i q p f e l in absurd (omega (arith, x, four)))
      (λ (l : i ≤ j).
      let same : i ≡ j = omega (arith, l, h) in
      let there : Some p ≡ Some q = sym e ∙ ap (slice_get ps) same ∙ f in
      let x : p ≡ q = cc in
      let y = ap (λ (r : SlotPlan). r.pc) x in absurd (omega (arith, y, four)))
      (cases_lt j i))
      (λ (h : suc i < j).
      let within = slice_get_within ps j q f in
      let r = entry_below ps (suc i) (omega (arith, h, within)) in
      let a = ordered.rises i (suc i) p r.0 e r.1 (omega arith) in
      let b = ordered.rises (suc i) j r.0 q r.1 f h in
      let c = (ordered.aligned i p e).0 in
      let d = (ordered.aligned (suc i) r.0 r.1).0 in
      absurd (omega (arith, a, b, c, d, four))))
      (cases_order j (suc i))
