-- What a search for a key finds among assumptions, whose keys rise.
use Rattle.std.proofs.Common.{◌≡◌, ℕ, ◌<◌, ◌≤◌, ◌==◌, Bool, true, false, cond, List, [], ◌∷◌, map, length, get_or, Ok, Err, Option, Some, None, refl, sym, ap, subst, ◌∙◌, All}
use Rattle.std.specs.Prelude.{slice_get}
use Rattle.std.specs.List.{find, AllByRecursion}
use Rattle.std.specs.List.Sorted.{IsStrictlyIncreasing, IsBinarySearchResult}
use Rattle.std.specs.Option.{option_map}
use Rattle.std.specs.Ordering.{nat_cmp}
use Rattle.std.proofs.lemmas.List.Elements.{recursion_from_All}
use Rattle.std.proofs.lemmas.Option.{get_or_from_slice_get, slice_get_within}
use Rattle.dist_image.specs.declared.image.Assumption.{Assumption}
use Rattle.dist_image.specs.declared.image.Assumption.TheVariants as assumption
use Rattle.dist_image.specs.Image.{Premise, Code, IsPremise, premise, key_of, keyed}
use Rattle.dist_image.proofs.Search.{found, none_found, find_there}

-- what is found among assumptions is found among what they say
found_is_said : (key : ℕ) (xs : List Assumption) → option_map premise (find (λ x. key_of (premise x) == key) xs) ≡ keyed key (map premise xs)
found_is_said key [] = refl
found_is_said key (x ∷ xs) = at_first (key_of (premise x) == key) (found_is_said key xs)
  where
    at_first : (b : Bool) → option_map premise (find (λ x. key_of (premise x) == key) xs) ≡ keyed key (map premise xs)
        → option_map premise (cond b (Some x) (find (λ x. key_of (premise x) == key) xs)) ≡ cond b (Some (premise x)) (keyed key (map premise xs))
    at_first true e = refl
    at_first false e = e

keys_same : (xs : List Assumption) → map key_of (map premise xs) ≡ map (λ x. key_of (premise x)) xs
keys_same [] = refl
keys_same (x ∷ xs) = ap (λ ks. key_of (premise x) ∷ ks) (keys_same xs)

module _ (key : ℕ) (xs : List Assumption) (ps : List Premise) (same : map premise xs ≡ ps) (rise : IsStrictlyIncreasing (map key_of ps)) where
  keys_rise : IsStrictlyIncreasing (map (λ x. key_of (premise x)) xs)
  keys_rise = subst IsStrictlyIncreasing (ap (map key_of) (sym same) ∙ keys_same xs) rise

  pub key_found : (place : ℕ) (d : Assumption) → place < length xs → IsBinarySearchResult (λ x. nat_cmp (key_of (premise x)) key) xs (Ok place) → Some (premise (get_or xs place d)) ≡ keyed key ps
  key_found place d l h = ap (option_map premise) (found (λ x. key_of (premise x)) d key xs keys_rise place l h) ∙ found_is_said key xs ∙ ap (keyed key) same

  pub key_absent : (place : ℕ) → place ≤ length xs → IsBinarySearchResult (λ x. nat_cmp (key_of (premise x)) key) xs (Err place) → None ≡ keyed key ps
  key_absent place l h = ap (option_map premise) (none_found (λ x. key_of (premise x)) assumption.Code key xs keys_rise place l h) ∙ found_is_said key xs ∙ ap (keyed key) same

-- an assumption that is listed is found under its key
pub listed_is_keyed : (ps : List Premise) → IsStrictlyIncreasing (map key_of ps) → (k : ℕ) (x : Premise) → slice_get ps k ≡ Some x → keyed (key_of x) ps ≡ Some x
listed_is_keyed ps rise k x e =
    let is = get_or_from_slice_get ps k x Code e in
    sym (find_there key_of Code (key_of x) ps rise k (slice_get_within ps k x e) (ap key_of is)) ∙ ap (λ y. Some y) is

-- what is found under a key is an assumption of the list, with its bounds
pub keyed_is_premise : (key : ℕ) (ps : List Premise) → All IsPremise ps → (x : Premise) → keyed key ps ≡ Some x → IsPremise x
keyed_is_premise key ps all x e = each ps (recursion_from_All IsPremise ps all) e
  where
    each : (qs : List Premise) → AllByRecursion IsPremise qs → keyed key qs ≡ Some x → IsPremise x
    each [] h e = absurd (cc)
    each (q ∷ qs) h e = at_first (key_of q == key) (each qs h.1) e
      where
        same_one : (q : Premise) → ◌≡◌ {A = Option Premise} (Some q) (Some x) → q ≡ x
        same_one q e = cc

        at_first : (b : Bool) → (keyed key qs ≡ Some x → IsPremise x) → cond b (Some q) (keyed key qs) ≡ Some x → IsPremise x
        at_first true more e = subst IsPremise (same_one q e) h.0
        at_first false more e = more e
