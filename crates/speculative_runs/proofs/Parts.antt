-- The newest piece of an output, which begins where the pieces before it end.
use Rattle.std.proofs.Common.{◌≡◌, ℕ, List, ◌++◌, length, take, drop, refl, sym, ap, subst, ◌∙◌, append_assoc, Option}
use Rattle.std.proofs.Math.Seq.{drop-append_seam}
use Rattle.outside.specs.Answers.{Gains}
use Rattle.report.proofs.Gained.{gains-append, part_first, part_behind}

module _ (told mid left : Option (List ℕ)) (old now more : List ℕ) (k : ℕ) (is : now ≡ old ++ more) (s : k ≡ length old) (g : Gains told mid old) where
  newest : drop k now ≡ more
  newest = (λ i. drop (s i) (is i)) ∙ drop-append_seam old more

  -- a part of it is a part of all, behind the pieces before
  pub part_within : (all rest : List ℕ) → all ≡ now ++ rest → (n : ℕ) × Gains mid left (take n (drop k now)) → (m : ℕ) × Gains told left (take m all)
  part_within all rest f (n, h) =
      part_behind told mid left old (more ++ rest) all (f ∙ ap (λ bs. bs ++ rest) is ∙ append_assoc old more rest) g
      (part_first mid left more rest (more ++ rest) refl (n, subst (λ bs. Gains mid left (take n bs)) newest h))

  -- all of it
  pub whole_piece : Gains mid left (drop k now) → Gains told left now
  whole_piece h = subst (λ bs. Gains told left bs) (ap (λ bs. old ++ bs) newest ∙ sym is) (gains-append told mid left old (drop k now) g h)
