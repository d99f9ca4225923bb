-- Reading digits one after the other.
use Rattle.std.proofs.Common.{◌≡◌, ℕ, ◌+◌, ◌-◌, ◌*◌, ◌<◌, ◌≤◌, Bool, true, false, cond, ◌&&◌, leb, List, [], ◌∷◌, fold, length, get_or, drop, drop-cons, suc, Option, Some, None, refl, ◌∙◌, arith}
use Rattle.std.proofs.lemmas.Bool.Decides.{nat_tests}
use Rattle.std.specs.Char.{is_ascii_digit}
use Rattle.std.specs.Str.{all_ascii_digits}

-- the number that digits write after those of n
abbrev pub value_after : ℕ → List ℕ → ℕ
value_after n digits = fold (λ n c. n * 10 + (c - 48)) n digits

-- that number, if it is at most this, or None where a byte is no digit
abbrev pub after_up_to : ℕ → ℕ → List ℕ → Option ℕ
after_up_to most n digits = cond (all_ascii_digits digits && leb (value_after n digits) most) (Some (value_after n digits)) None

-- no digit makes a number less
value_grows : (n : ℕ) (digits : List ℕ) → n ≤ value_after n digits
value_grows n [] = omega arith
value_grows n (c ∷ digits) = omega (arith, value_grows (n * 10 + (c - 48)) digits)

pub after_more : (most n c : ℕ) (digits : List ℕ) → is_ascii_digit c ≡ true → after_up_to most n (c ∷ digits) ≡ after_up_to most (n * 10 + (c - 48)) digits
after_more most n c digits is = rw is refl

pub after_other : (most n c : ℕ) (digits : List ℕ) → is_ascii_digit c ≡ false → after_up_to most n (c ∷ digits) ≡ None
after_other most n c digits is = rw is refl

and_false : (b : Bool) → b && false ≡ false
and_false true = refl
and_false false = refl

pub after_past : (most n : ℕ) (digits : List ℕ) → most < n → after_up_to most n digits ≡ None
after_past most n digits lt =
    let large : leb (value_after n digits) most ≡ false = grind (arith, nat_tests, value_grows n digits) in
    rw (large, and_false) refl

-- a digit that makes the number too large
pub past_at : (most n i : ℕ) (digits : List ℕ) → i < length digits → is_ascii_digit (get_or digits i 0) ≡ true → most < n * 10 + (get_or digits i 0 - 48) → after_up_to most n (drop i digits) ≡ None
past_at most n i digits lt is large =
    rw (drop-cons digits i 0) (after_more most n (get_or digits i 0) (drop (suc i) digits) is ∙ after_past most (n * 10 + (get_or digits i 0 - 48)) (drop (suc i) digits) large)
