-- Which stores a list claims dead, and that a search for their keys finds them.
use Rattle.std.proofs.Common.{◌≡◌, ℕ, ◌+◌, ◌*◌, ◌<◌, ◌^◌, Bool, true, false, not, ◌||◌, cond, List, [], ◌∷◌, map, length, get_or, Some, refl, sym, ap, subst, ◌∙◌, true≢false, All, arith}
use Rattle.std.specs.Prelude.{nat_eq, is_some, ◌==◌}
use Rattle.std.specs.List.{list_any, AllByRecursion}
use Rattle.std.proofs.lemmas.Bool.Decides.{nat_tests}
use Rattle.std.proofs.lemmas.List.{length-map, get_or-map}
use Rattle.std.proofs.lemmas.List.Elements.{All-get_or, recursion_from_All}
use Rattle.dist_image.specs.declared.image.Assumption.{Assumption}
use Rattle.dist_image.specs.Image.{Premise, Cut, Targets, Dead, Code, Within, Span, Same, IsPremise, premise, place_of, key_of, keyed}
use Rattle.assume_list.specs.Marks.{with_dead, dead_in}
use Rattle.assume_list.specs.Sights.{is_code, is_within}

abbrev is_dead_at : ℕ → Premise → Bool
is_dead_at a (Dead at) = nat_eq at a
is_dead_at a _ = false

claimed : (xs : List Premise) (m : ℕ → ℕ) (a : ℕ) → with_dead xs m a ≡ cond (list_any (is_dead_at a) xs) 1 (m a)
claimed [] m a = refl
claimed (Cut at taken ∷ xs) m a = claimed xs m a
claimed (Targets at to ∷ xs) m a = claimed xs m a
claimed (Code ∷ xs) m a = claimed xs m a
claimed (Within ∷ xs) m a = claimed xs m a
claimed (Span ∷ xs) m a = claimed xs m a
claimed (Same at value ∷ xs) m a = claimed xs m a
claimed (Dead at ∷ xs) m a = claimed xs (λ b. cond (nat_eq at b) 1 (m b)) a ∙ both (list_any (is_dead_at a) xs) (nat_eq at a)
  where
    both : (x y : Bool) → cond x 1 (cond y 1 (m a)) ≡ cond (y || x) 1 (m a)
    both true true = refl
    both true false = refl
    both false true = refl
    both false false = refl

claims : (xs : List Premise) (a : ℕ) → not (nat_eq (dead_in xs a) 0) ≡ list_any (is_dead_at a) xs
claims xs a = ap (λ n. not (nat_eq n 0)) (claimed xs (λ _. 0) a) ∙ back (list_any (is_dead_at a) xs)
  where
    back : (b : Bool) → not (nat_eq (cond b 1 0) 0) ≡ b
    back true = refl
    back false = refl

-- ---- what is listed under a key is what passes a test, where the key tells the test

-- the key of each assumption is this one exactly where it passes
abbrev Tells : (Premise → Bool) → ℕ → Type 0
Tells test key = (x : Premise) → place_of x < 2 ^ 32 → (key_of x == key) ≡ test x

listed_passes : (test : Premise → Bool) (key : ℕ) → Tells test key → (xs : List Premise) → AllByRecursion IsPremise xs → is_some (keyed key xs) ≡ list_any test xs
listed_passes test key tells [] h = refl
listed_passes test key tells (x ∷ xs) h = at_first (key_of x == key) (test x) (tells x h.0.0.1) (listed_passes test key tells xs h.1)
  where
    at_first : (b t : Bool) → b ≡ t → is_some (keyed key xs) ≡ list_any test xs → is_some (cond b (Some x) (keyed key xs)) ≡ (t || list_any test xs)
    at_first true true e more = refl
    at_first false false e more = more
    at_first true false e more = absurd (true≢false e)
    at_first false true e more = absurd (true≢false (sym e))

pub key_passes : (test : Premise → Bool) (key : ℕ) → Tells test key → (xs : List Premise) → All IsPremise xs → is_some (keyed key xs) ≡ list_any test xs
key_passes test key tells xs all = listed_passes test key tells xs (recursion_from_All IsPremise xs all)

tells_dead : (a : ℕ) → a < 2 ^ 32 → Tells (is_dead_at a) (2 * 4294967296 + a)
tells_dead a l (Cut at taken) p = grind (arith, nat_tests)
tells_dead a l (Targets at to) p = grind (arith, nat_tests)
tells_dead a l (Dead at) p = grind (arith, nat_tests)
tells_dead a l Code p = grind (arith, nat_tests)
tells_dead a l Within p = grind (arith, nat_tests)
tells_dead a l Span p = grind (arith, nat_tests)
tells_dead a l (Same at value) p = grind (arith, nat_tests)

pub tells_code : Tells is_code 12884901888
tells_code (Cut at taken) p = grind (arith, nat_tests)
tells_code (Targets at to) p = grind (arith, nat_tests)
tells_code (Dead at) p = grind (arith, nat_tests)
tells_code Code p = refl
tells_code Within p = refl
tells_code Span p = refl
tells_code (Same at value) p = grind (arith, nat_tests)

pub tells_within : Tells is_within 17179869184
tells_within (Cut at taken) p = grind (arith, nat_tests)
tells_within (Targets at to) p = grind (arith, nat_tests)
tells_within (Dead at) p = grind (arith, nat_tests)
tells_within Code p = refl
tells_within Within p = refl
tells_within Span p = refl
tells_within (Same at value) p = grind (arith, nat_tests)

-- a store is claimed by the assumption with its key
pub claimed_by_key : (a : ℕ) → a < 2 ^ 32 → (xs : List Premise) → All IsPremise xs → is_some (keyed (2 * 4294967296 + a) xs) ≡ not (nat_eq (dead_in xs a) 0)
claimed_by_key a l xs all = key_passes (is_dead_at a) (2 * 4294967296 + a) (tells_dead a l) xs all ∙ sym (claims xs a)

-- ---- bounds

pub premise_at : (xs : List Assumption) → All IsPremise (map premise xs) → (k : ℕ) (d : Assumption) → k < length xs → IsPremise (premise (get_or xs k d))
premise_at xs all k d l = let long = length-map xs premise in subst IsPremise (get_or-map premise xs k d Code l) (All-get_or IsPremise (map premise xs) k Code (omega (arith, l, long)) all)
