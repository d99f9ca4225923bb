-- Of two answers the one that comes first is an answer to all that both look at.
use Rattle.std.proofs.Common.{◌≡◌, ℕ, ◌<◌, ◌≤◌, Bool, true, ◌||◌, zero, suc, refl, sym, subst, arith, ⊎_elim}
use Rattle.std.proofs.lemmas.Bool.{or_cases, or_right}
use Rattle.std.proofs.lemmas.Bool.Decides.{nat_tests}
use Rattle.dist_image.specs.Image.{Distilled}
use Rattle.certify.specs.declared.fit.Fit.{Fit}
use Rattle.certify.specs.declared.fit.Fit.TheVariants.{Yes, No}
use Rattle.certify.specs.Answers.{Keeps, IsAnswer}
use Rattle.certify.specs.Parts.{IsAnswerOf, on_list, on_anchors, on_notes}
use Rattle.certify.proofs.Fitted.{fits_by}

module _ (word : ℕ → ℕ) (image : Distilled) where
  -- what both parts keep, the whole does
  both : (x y : Bool) (P : Type 0) → (x ≡ true → P) → (y ≡ true → P) → (x || y) ≡ true → P
  both x y P f g e = ⊎_elim f g (or_cases x y e)

  abbrev Answers : (ℕ → Bool) → Fit → Type 0
  Answers asked answer = IsAnswerOf word image asked answer

  module _ (s t : ℕ → Bool) where
    abbrev each : ℕ → Bool
    each r = s r || t r

    pub none : Answers s Yes → Answers t Yes → Answers each Yes
    none f g r q e = both (s r) (t r) (Keeps word image r q) (f r q) (g r q) e

    pub first_alone : (p r : ℕ) → Answers s (No p r) → Answers t Yes → Answers each (No p r)
    first_alone p r f g = record {
      broken = f.broken;
      least = λ i l e. both (s i) (t i) (Keeps word image i p) (f.least i l) (g i p) e;
      before = λ q i l e. both (s i) (t i) (Keeps word image i q) (f.before q i l) (g i q) e;
    }

    pub second_alone : (q r : ℕ) → Answers s Yes → Answers t (No q r) → Answers each (No q r)
    second_alone q r f g = record {
      broken = g.broken;
      least = λ i l e. both (s i) (t i) (Keeps word image i q) (f i q) (g.least i l) e;
      before = λ o i l e. both (s i) (t i) (Keeps word image i o) (f i o) (g.before o i l) e;
    }

    pub first_less : (p r q i : ℕ) → p < q → Answers s (No p r) → Answers t (No q i) → Answers each (No p r)
    first_less p r q i less f g = record {
      broken = f.broken;
      least = λ j l e. both (s j) (t j) (Keeps word image j p) (f.least j l) (g.before p j less) e;
      before = λ o j l e. both (s j) (t j) (Keeps word image j o) (f.before o j l) (g.before o j (omega arith)) e;
    }

    pub first_same : (p r q i : ℕ) → p ≡ q → r ≤ i → Answers s (No p r) → Answers t (No q i) → Answers each (No p r)
    first_same p r q i same less f g = record {
      broken = f.broken;
      least = λ j l e. both (s j) (t j) (Keeps word image j p) (f.least j l) (λ a. subst (Keeps word image j) (sym same) (g.least j (omega arith) a)) e;
      before = λ o j l e. both (s j) (t j) (Keeps word image j o) (f.before o j l) (g.before o j (omega arith)) e;
    }

    pub second_less : (p r q i : ℕ) → q < p → Answers s (No p r) → Answers t (No q i) → Answers each (No q i)
    second_less p r q i less f g = record {
      broken = g.broken;
      least = λ j l e. both (s j) (t j) (Keeps word image j q) (f.before q j less) (g.least j l) e;
      before = λ o j l e. both (s j) (t j) (Keeps word image j o) (f.before o j (omega arith)) (g.before o j l) e;
    }

    pub second_same : (p r q i : ℕ) → p ≡ q → i < r → Answers s (No p r) → Answers t (No q i) → Answers each (No q i)
    second_same p r q i same less f g = record {
      broken = g.broken;
      least = λ j l e. both (s j) (t j) (Keeps word image j q) (λ a. subst (Keeps word image j) same (f.least j (omega arith) a)) (g.least j l) e;
      before = λ o j l e. both (s j) (t j) (Keeps word image j o) (f.before o j (omega arith)) (g.before o j l) e;
    }

  abbrev all : ℕ → Bool
  all rule = (on_list rule || on_anchors rule) || on_notes rule

  late : (rule : ℕ) → 3 ≤ rule → all rule ≡ true
  late rule l = or_right (on_list rule || on_anchors rule) (on_notes rule) (grind (arith, nat_tests))

  each_rule : (P : ℕ → Type 0) → P 0 → ((rule : ℕ) → all rule ≡ true → P rule) → (rule : ℕ) → P rule
  each_rule P nothing f zero = nothing
  each_rule P nothing f (suc zero) = f 1 refl
  each_rule P nothing f (suc (suc zero)) = f 2 refl
  each_rule P nothing f (suc (suc (suc more))) = f (suc (suc (suc more))) (late (suc (suc (suc more))) (omega arith))

  -- an answer to all three parts is one to all rules
  pub whole : (answer : Fit) → Answers all answer → IsAnswer word image answer
  whole Yes f = fits_by word image (λ rule pc. each_rule (λ r. Keeps word image r pc) tt (λ r e. f r pc e) rule)
  whole (No pc rule) f = record {
    broken = f.broken;
    least = λ r. each_rule (λ i. i < rule → Keeps word image i pc) (λ l. tt) (λ i e l. f.least i l e) r;
    before = λ q r l. each_rule (λ i. Keeps word image i q) tt (λ i e. f.before q i l e) r;
  }
