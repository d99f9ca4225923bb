-- The first anchor and the first note that break a rule, in tables whose addresses rise.
use Rattle.std.proofs.Common.{◌≡◌, ℕ, ◌<◌, ◌≤◌, ◌+◌, zero, suc, true, List, [], ◌∷◌, map, length, get_or, Option, Some, None, refl, sym, ap, subst, ◌∙◌, arith, inl, inr, true≢false, eqb-true}
use Rattle.std.specs.Prelude.{slice_get}
use Rattle.std.specs.List.Sorted.{IsStrictlyIncreasing}
use Rattle.std.proofs.lemmas.Bool.{cases_lt}
use Rattle.std.proofs.lemmas.Option.{slice_get_within}
use Rattle.dist_image.specs.declared.image.Anchor.{Anchor}
use Rattle.dist_image.specs.declared.image.Note.{Note}
use Rattle.dist_image.specs.Image.{Distilled, IsImage}
use Rattle.dist_image.proofs.Search.{rising}
use Rattle.certify.specs.declared.fit.Fit.TheVariants.{Yes, No}
use Rattle.certify.specs.Answers.{Keeps, NoteKeeps, IsForked}
use Rattle.certify.specs.Parts.{IsAnswerOf, IsLeast, on_anchors, on_notes}

same_entry : {X : Type 0} (a b : X) → ◌≡◌ {A = Option X} (Some a) (Some b) → a ≡ b
same_entry a b e = cc

module _ {X : Type 0} (key : X → ℕ) where
  key_at : (xs : List X) (j : ℕ) (x : X) → slice_get xs j ≡ Some x → (j < length (map key xs)) × (get_or (map key xs) j 0 ≡ key x)
  key_at [] j x e = absurd (cc)
  key_at (y ∷ ys) zero x e = (omega arith, ap key (same_entry y x e))
  key_at (y ∷ ys) (suc j) x e = let more = key_at ys j x e in let l = more.0 in (omega (arith, l), more.1)

  module _ (xs : List X) (rise : IsStrictlyIncreasing (map key xs)) (j k : ℕ) (b a : X) (at_j : slice_get xs j ≡ Some b) (at_k : slice_get xs k ≡ Some a) where
    -- a lesser key stands before
    lesser : key b < key a → j < k
    lesser l = elim (cases_lt j k) [
      | inl before ↦ before
      | inr after ↦ elim (cases_lt k j) [
        | inl less ↦ let up = rising (map key xs) rise k j less (key_at xs j b at_j).0 in let f = (key_at xs j b at_j).1 in let g = (key_at xs k a at_k).1 in absurd (omega (arith, up, f, g, l))
        | inr same ↦ let e : j ≡ k = omega (arith, after, same) in let f = sym (key_at xs j b at_j).1 ∙ ap (λ n. get_or (map key xs) n 0) e ∙ (key_at xs k a at_k).1 in absurd (omega (arith, f, l))
      ]
    ]

    -- an equal key is of the same entry
    equal : key b ≡ key a → b ≡ a
    equal e = elim (cases_lt j k) [
      | inl less ↦ let up = rising (map key xs) rise j k less (key_at xs k a at_k).0 in let f = (key_at xs j b at_j).1 in let g = (key_at xs k a at_k).1 in absurd (omega (arith, up, f, g, e))
      | inr after ↦ elim (cases_lt k j) [
        | inl less ↦ let up = rising (map key xs) rise k j less (key_at xs j b at_j).0 in let f = (key_at xs j b at_j).1 in let g = (key_at xs k a at_k).1 in absurd (omega (arith, up, f, g, e))
        | inr same ↦ let s : j ≡ k = omega (arith, after, same) in same_entry b a (sym at_j ∙ ap (slice_get xs) s ∙ at_k)
      ]
    ]

-- ---- what holds of the entries before a place

module _ {X : Type 0} (P : ℕ → X → Type 0) (xs : List X) where
  abbrev pub HoldsBefore : ℕ → Type 0
  HoldsBefore k = (j : ℕ) (x : X) → j < k → slice_get xs j ≡ Some x → P j x

  pub before_none : HoldsBefore 0
  before_none j x l at = absurd (omega arith)

  pub before_more : (k : ℕ) (x : X) → slice_get xs k ≡ Some x → P k x → HoldsBefore k → HoldsBefore (k + 1)
  before_more k x at here before j y l at_j = elim (cases_lt j k) [
    | inl less ↦ before j y less at_j
    | inr after ↦ let same : k ≡ j = omega (arith, l, after) in subst (λ n. P n y) same (subst (P k) (same_entry x y (sym at ∙ ap (slice_get xs) same ∙ at_j)) here)
  ]

  pub before_all : (k : ℕ) → length xs ≤ k → HoldsBefore k → (j : ℕ) (x : X) → slice_get xs j ≡ Some x → P j x
  before_all k l before j x at = let within = slice_get_within xs j x at in before j x (omega (arith, l, within)) at

-- every anchor keeps the rule, or those before k do
abbrev pub AreForked : Distilled → Type 0
AreForked image = (j : ℕ) (b : Anchor) → slice_get image.anchors j ≡ Some b → IsForked image j b

abbrev pub AreForkedBefore : Distilled → ℕ → Type 0
AreForkedBefore image k = HoldsBefore (IsForked image) image.anchors k

module _ (word : ℕ → ℕ) (image : Distilled) where
  second : (rule : ℕ) → on_anchors rule ≡ true → (P : ℕ → Type 0) → P 2 → P rule
  second rule e P h = subst P (sym (eqb-true rule 2 e)) h

  pub all_forked : AreForked image → IsAnswerOf word image on_anchors Yes
  all_forked f rule pc e = second rule e (λ r. Keeps word image r pc) (λ k a at _. f k a at)

  pub first_unforked : IsImage image → (k : ℕ) (a : Anchor) → slice_get image.anchors k ≡ Some a → (IsForked image k a → ⊥) → AreForkedBefore image k → IsAnswerOf word image on_anchors (No a.pc 2)
  first_unforked is k a at not before = record {
    broken = λ h. not (h k a at refl);
    least = λ r l e. let two = eqb-true r 2 e in absurd (omega (arith, two, l));
    before = λ q r l e. second r e (λ r. Keeps word image r q) (λ j b at_j here. before j b (lesser (λ (x : Anchor). x.pc) image.anchors is.anchors_rise j k b a at_j at (omega (arith, here, l))) at_j);
  }

  -- every note keeps its rules, or those before k do
  abbrev pub AreKept : Type 0
  AreKept = (j : ℕ) (y : Note) → slice_get image.notes j ≡ Some y → IsLeast word image y None

  abbrev pub AreKeptBefore : ℕ → Type 0
  AreKeptBefore k = HoldsBefore (λ j y. IsLeast word image y None) image.notes k

  of_notes : (rule pc : ℕ) → on_notes rule ≡ true → ((j : ℕ) (y : Note) → slice_get image.notes j ≡ Some y → y.pc ≡ pc → NoteKeeps word image rule y) → Keeps word image rule pc
  of_notes zero pc e f = tt
  of_notes (suc zero) pc e f = absurd (true≢false (sym e))
  of_notes (suc (suc zero)) pc e f = absurd (true≢false (sym e))
  of_notes (suc (suc (suc more))) pc e f = f

  pub all_kept : AreKept → IsAnswerOf word image on_notes Yes
  all_kept f rule pc e = of_notes rule pc e (λ j y at _. f j y at rule)

  broken_at : (rule k : ℕ) (x : Note) → slice_get image.notes k ≡ Some x → (NoteKeeps word image rule x → ⊥) → Keeps word image rule x.pc → ⊥
  broken_at zero k x at not h = not tt
  broken_at (suc zero) k x at not h = not tt
  broken_at (suc (suc zero)) k x at not h = not tt
  broken_at (suc (suc (suc more))) k x at not h = not (h k x at refl)

  pub first_unfit : IsImage image → (k rule : ℕ) (x : Note) → slice_get image.notes k ≡ Some x → IsLeast word image x (Some rule) → AreKeptBefore k → IsAnswerOf word image on_notes (No x.pc rule)
  first_unfit is k rule x at least before = record {
    broken = broken_at rule k x at least.0;
    least = λ r l e. of_notes r x.pc e (λ j y at_j here. subst (NoteKeeps word image r) (sym (equal (λ (n : Note). n.pc) image.notes is.notes_rise j k y x at_j at here)) (least.1 r l));
    before = λ q r l e. of_notes r q e (λ j y at_j here. before j y (lesser (λ (n : Note). n.pc) image.notes is.notes_rise j k y x at_j at (omega (arith, here, l))) at_j r);
  }
