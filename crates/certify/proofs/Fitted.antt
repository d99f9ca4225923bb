-- The rules together are fitting, and the first that is broken is one.
use Rattle.std.proofs.Common.{◌≡◌, ℕ, ◌<◌, zero, suc, refl, subst, arith, ⊎_elim, ◌⊎◌}
use Rattle.std.specs.Prelude.{slice_get, Some}
use Rattle.dist_image.specs.declared.image.Note.{Note}
use Rattle.dist_image.specs.Image.{Distilled}
use Rattle.fitting.specs.Fits.{Fits}
use Rattle.certify.specs.declared.fit.Fit.{Fit}
use Rattle.certify.specs.declared.fit.Fit.TheVariants.{Yes, No}
use Rattle.certify.specs.Answers.{NoteKeeps, Keeps, IsFirst, IsAnswer, AreRules}

module _ (word : ℕ → ℕ) (image : Distilled) where
  pub fits_by : ((rule pc : ℕ) → Keeps word image rule pc) → Fits word image
  fits_by h = record {
    listed = h 1 0 refl;
    forks = λ k a at. h 2 a.pc k a at refl;
    placed = λ k x at. h 3 x.pc k x at refl;
    passed = λ k x at. h 4 x.pc k x at refl (h 3 x.pc k x at refl);
    aimed = λ k x at. h 5 x.pc k x at refl;
    live = λ k x at. h 6 x.pc k x at refl;
    need = λ k x at. h 7 x.pc k x at refl (h 3 x.pc k x at refl);
  }

  note_keeps : Fits word image → (rule k : ℕ) (x : Note) → slice_get image.notes k ≡ Some x → NoteKeeps word image rule x
  note_keeps f zero k x at = tt
  note_keeps f (suc zero) k x at = tt
  note_keeps f (suc (suc zero)) k x at = tt
  note_keeps f (suc (suc (suc zero))) k x at = f.placed k x at
  note_keeps f (suc (suc (suc (suc zero)))) k x at = λ there. f.passed k x at
  note_keeps f (suc (suc (suc (suc (suc zero))))) k x at = f.aimed k x at
  note_keeps f (suc (suc (suc (suc (suc (suc zero)))))) k x at = f.live k x at
  note_keeps f (suc (suc (suc (suc (suc (suc (suc zero))))))) k x at = λ there. f.need k x at
  note_keeps f (suc (suc (suc (suc (suc (suc (suc (suc more)))))))) k x at = tt

  pub keeps_by : Fits word image → (rule pc : ℕ) → Keeps word image rule pc
  keeps_by f zero pc = tt
  keeps_by f (suc zero) pc = λ e. f.listed
  keeps_by f (suc (suc zero)) pc = λ k a at e. f.forks k a at
  keeps_by f (suc (suc (suc more))) pc = λ k x at e. note_keeps f (suc (suc (suc more))) k x at

  pub rules : AreRules word image
  rules = record { fits = fits_by; keeps = keeps_by }

  order : (a b : ℕ) → (a ≡ b) ⊎ ((a < b) ⊎ (b < a))
  order a b = grind arith

  one_pc : (p q r s : ℕ) → IsFirst word image p r → IsFirst word image q s → p ≡ q
  one_pc p q r s x y =
      ⊎_elim (λ (e : p ≡ q). e)
      (λ (h : (p < q) ⊎ (q < p)). ⊎_elim (λ (l : p < q). absurd (x.broken (y.before p r l))) (λ (l : q < p). absurd (y.broken (x.before q s l))) h)
      (order p q)

  one_rule : (p r s : ℕ) → IsFirst word image p r → IsFirst word image p s → r ≡ s
  one_rule p r s x y =
      ⊎_elim (λ (e : r ≡ s). e)
      (λ (h : (r < s) ⊎ (s < r)). ⊎_elim (λ (l : r < s). absurd (x.broken (y.least r l))) (λ (l : s < r). absurd (y.broken (x.least s l))) h)
      (order r s)

  pub one : (a b : Fit) → IsAnswer word image a → IsAnswer word image b → a ≡ b
  one Yes Yes x y = refl
  one Yes (No q s) x y = absurd (y.broken (keeps_by x s q))
  one (No p r) Yes x y = absurd (x.broken (keeps_by y r p))
  one (No p r) (No q s) x y =
      let e = one_pc p q r s x y in
      let f = one_rule q r s (subst (λ k. IsFirst word image k r) e x) y in
      λ i. No (e i) (f i)
