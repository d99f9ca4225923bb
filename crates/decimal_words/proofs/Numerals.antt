-- A numeral is the decimal spelling of its number.
use Rattle.std.proofs.Common.{◌≡◌, ℕ, ◌+◌, ◌-◌, ◌*◌, ◌^◌, ◌<◌, ◌≤◌, Bool, true, false, cond, not, ◌&&◌, ◌||◌, leb, eqb, List, [], Option, ◌∷◌, length, fold, get_or, Some, None, refl, sym, ap, ◌∙◌, subst, arith, rules, ◌⊎◌, inl, inr}
use Rattle.std.proofs.lemmas.Bool.{le-leb, leb-true, cases_lt}
use Rattle.std.proofs.lemmas.Bool.Decides.{nat_tests}
use Rattle.std.proofs.lemmas.Str.Parse.{IsNumeralModel, numerals_by_fold}
use Rattle.std.proofs.lemmas.Fmt.{digits_decimal, digits_value-decimal, decimal-digits_value, decimal_nonempty, first_decimal, decimal_digit}
use Rattle.std.specs.Prelude.{IfSome}
use Rattle.std.specs.Fmt.{decimal}
use Rattle.std.specs.Option.{option_and_then}
use Rattle.std.specs.Str.{all_ascii_digits}
use Rattle.decimal_words.specs.Number.{is_numeral, decimal_value, within, number_within, IsSpelled}

numerals : IsNumeralModel (λ ds. all_ascii_digits ds ≡ true) decimal_value
numerals = numerals_by_fold _ (search rules) (λ n ds. fold (λ n c. n * 10 + (c - 48)) n ds) (search rules)

both : (a b : Bool) → a && b ≡ true → (a ≡ true) × (b ≡ true)
both true true e = (refl, refl)
both true false e = absurd cc
both false b e = absurd cc

-- a numeral is digits, and only `0` alone begins with a zero
numeral_parts : (text : List ℕ) → is_numeral text ≡ true → (all_ascii_digits text ≡ true) × (0 < length text) × (get_or text 0 0 ≡ 48 → length text ≡ 1)
numeral_parts [] e = absurd cc
numeral_parts (c ∷ more) e = let p = both (all_ascii_digits (c ∷ more)) (not (eqb c 48) || eqb (length more) 0) e in (p.0, omega arith, λ zero. grind (arith, nat_tests, p.1))

is_numeral_from : (text : List ℕ) → all_ascii_digits text ≡ true → 0 < length text → (48 < get_or text 0 0) ⊎ (length text ≡ 1) → is_numeral text ≡ true
is_numeral_from [] digits some first = absurd (omega arith)
is_numeral_from (c ∷ more) digits some (inl above) = rw digits (grind (arith, nat_tests))
is_numeral_from (c ∷ more) digits some (inr one) = rw digits (grind (arith, nat_tests))

-- a spelling is digits, and a numeral
pub decimal_digits : (n : ℕ) → n < 2 ^ 64 → all_ascii_digits (decimal n) ≡ true
decimal_digits n few = digits_decimal numerals n few

decimal_numeral : (n : ℕ) → n < 2 ^ 64 → is_numeral (decimal n) ≡ true
decimal_numeral n few = is_numeral_from (decimal n) (decimal_digits n few) (decimal_nonempty n few) (first (cases_lt 0 n))
  where
    first : (0 < n) ⊎ (n ≤ 0) → (48 < get_or (decimal n) 0 0) ⊎ (length (decimal n) ≡ 1)
    first (inl some) = inl (first_decimal n some few)
    first (inr none) = inr (ap length (decimal_digit n (omega arith)))

-- ---- numbers within a range

chosen : {A : Type 0} (b : Bool) (x y : A) → cond b (Some x) None ≡ Some y → (b ≡ true) × (x ≡ y)
chosen true x y e = (refl, cc)
chosen false x y e = absurd cc

-- a range keeps what a test lets through
ranged : (least most v n : ℕ) (b : Bool) → option_and_then (within least most) (cond b (Some v) None) ≡ Some n → (b ≡ true) × (v ≡ n) × (least ≤ n) × (n ≤ most)
ranged least most v n false e = absurd cc
ranged least most v n true e =
    let c = chosen (leb least v && leb v most) v n e in
    let p = both (leb least v) (leb v most) c.0 in
    (refl, c.1, omega (arith, leb-true _ _ p.0, c.1), omega (arith, leb-true _ _ p.1, c.1))

pub number_takes : (least most : ℕ) (text : List ℕ) (n : ℕ) → most < 2 ^ 64 → number_within least most text ≡ Some n → (text ≡ decimal n) × (least ≤ n) × (n ≤ most)
number_takes least most text n few e =
    let r = ranged least most (decimal_value text) n (is_numeral text) e in
    let parts = numeral_parts text r.0 in
    (sym (decimal-digits_value numerals text parts.0 parts.1 parts.2 (omega (arith, r.1, r.3))) ∙ ap decimal r.1, r.2, r.3)

pub number_again : (least most n : ℕ) → most < 2 ^ 64 → least ≤ n → n ≤ most → number_within least most (decimal n) ≡ Some n
number_again least most n few low high =
    let v : decimal_value (decimal n) ≡ n = digits_value-decimal numerals n (omega arith) in
    let is : is_numeral (decimal n) ≡ true = decimal_numeral n (omega arith) in
    let above : leb least n ≡ true = le-leb _ _ low in
    let below : leb n most ≡ true = le-leb _ _ high in
    rw (is, v, above, below) refl

pub is_spelled : (least most : ℕ) (word : List ℕ) → most < 2 ^ 64 → IsSpelled least most word (number_within least most word)
is_spelled least most word few = λ n. (
  λ e. let r = number_takes least most word n few e in (r.1, r.2, r.0),
  λ h. subst (λ w. number_within least most w ≡ Some n) (sym h.2) (number_again least most n few h.0 h.1),
)

pub in_range : (least most : ℕ) (word : List ℕ) (given : Option ℕ) → IsSpelled least most word given → IfSome given (λ n. (least ≤ n) × (n ≤ most))
in_range least most word None h = tt
in_range least most word (Some n) h = let r = (h n).0 refl in (r.0, r.1)
