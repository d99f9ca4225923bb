-- The registers of several masks together.
use Rattle.std.proofs.Common.{◌≡◌, ℕ, ◌<◌, Bool, true, false, ◌||◌, List, [], ◌∷◌, ◌++◌, max, refl, sym, ap, ◌∙◌, arith, ⊎_elim, subst}
use Rattle.std.specs.Prelude.{nat_eq, bit_or}
use Rattle.std.specs.Int.{bit_at}
use Rattle.std.specs.List.{list_any}
use Rattle.std.proofs.lemmas.Bool.{or_cases, or_left, or_right}
use Rattle.std.proofs.lemmas.Bool.Decides.{nat_tests}
use Rattle.std.proofs.lemmas.Nat.Bits.{bit_at_or, bit_at-zero}
use Rattle.std.proofs.lemmas.List.Folds.{list_any-append}
use Rattle.rv_word.specs.Masks.{in_mask}
use Rattle.fitting.specs.Claims.{among}
use Rattle.certify.specs.Ways.{IsJoined}

pub in_both : (a b r : ℕ) → in_mask (bit_or a b) r ≡ (in_mask a r || in_mask b r)
in_both a b r = ap (λ n. nat_eq n 1) (bit_at_or a b r) ∙ bit_in_either (bit_at a r) (bit_at b r) (omega arith) (omega arith)
  where
    bit_in_either : (x y : ℕ) → x < 2 → y < 2 → nat_eq (max x y) 1 ≡ (nat_eq x 1 || nat_eq y 1)
    bit_in_either x y l m = grind (arith, nat_tests)

alone : (b : Bool) → b ≡ (b || false)
alone true = refl
alone false = refl

module _ (mask_at : ℕ → ℕ) where
  pub none : IsJoined mask_at [] 0
  none r = ap (λ n. nat_eq n 1) (bit_at-zero r)

  pub one : (q mask : ℕ) → mask ≡ mask_at q → IsJoined mask_at (q ∷ []) mask
  one q mask e r = ap (λ m. in_mask m r) e ∙ alone (in_mask (mask_at q) r)

  pub both : (ps qs : List ℕ) (a b : ℕ) → IsJoined mask_at ps a → IsJoined mask_at qs b → IsJoined mask_at (ps ++ qs) (bit_or a b)
  both ps qs a b f g r = in_both a b r ∙ (λ i. f r i || g r i) ∙ sym (list_any-append (λ q. in_mask (mask_at q) r) ps qs)

  -- what holds of each register of the joined mask holds of each of each place, and the other way round
  module _ (P : ℕ → Type 0) where
    pub of_each : (qs : List ℕ) → ((r : ℕ) → list_any (λ q. in_mask (mask_at q) r) qs ≡ true → P r) → (q : ℕ) → among qs q ≡ true → (r : ℕ) → in_mask (mask_at q) r ≡ true → P r
    of_each [] f q e r h = absurd (cc)
    of_each (p ∷ qs) f q e r h =
        ⊎_elim
        (λ (is : nat_eq p q ≡ true). f r (or_left _ _ (subst (λ n. in_mask (mask_at n) r ≡ true) (sym (same is)) h)))
        (λ (more : among qs q ≡ true). of_each qs (λ r any. f r (or_right (in_mask (mask_at p) r) _ any)) q more r h)
        (or_cases (nat_eq p q) (among qs q) e)
      where
        same : nat_eq p q ≡ true → p ≡ q
        same is = grind (arith, nat_tests)

    pub of_all : (qs : List ℕ) → ((q : ℕ) → among qs q ≡ true → (r : ℕ) → in_mask (mask_at q) r ≡ true → P r) → (r : ℕ) → list_any (λ q. in_mask (mask_at q) r) qs ≡ true → P r
    of_all [] f r e = absurd (cc)
    of_all (p ∷ qs) f r e =
        ⊎_elim
        (λ (h : in_mask (mask_at p) r ≡ true). f p (or_left _ _ here) r h)
        (λ (more : list_any (λ q. in_mask (mask_at q) r) qs ≡ true). of_all qs (λ q at. f q (or_right (nat_eq p q) _ at)) r more)
        (or_cases (in_mask (mask_at p) r) _ e)
      where
        here : nat_eq p p ≡ true
        here = grind (arith, nat_tests)
