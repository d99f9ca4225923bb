-- Decimal numbers as words. A word is its bytes.
use Rattle.std.specs.Prelude.{◌≡◌, ◌↔◌, ℕ, ◌+◌, ◌-◌, ◌*◌, ◌≤◌, ◌==◌, nat_le, not, ◌&&◌, ◌||◌, Bool, false, if◌then◌else◌, List, [], ◌∷◌, length, fold, Option, Some, None, option_and_then}
use Rattle.std.specs.Fmt.{decimal}
use Rattle.std.specs.Str.{all_ascii_digits}

-- whether a word is a numeral: one ASCII digit or more and nothing else, and no first `0` (byte 48) before others
abbrev pub is_numeral : List ℕ → Bool
is_numeral [] = false
is_numeral (first ∷ more) = all_ascii_digits (first ∷ more) && (not (first == 48) || length more == 0)

-- the number that digits write, the highest first
abbrev pub decimal_value : List ℕ → ℕ
decimal_value digits = fold (λ n c. n * 10 + (c - 48)) 0 digits

-- the number that a word writes, however large, or None where it is no numeral
abbrev pub number_of : List ℕ → Option ℕ
number_of word = if is_numeral word then Some (decimal_value word) else None

-- a number, if it is from the least to the most
abbrev pub within : ℕ → ℕ → ℕ → Option ℕ
within least most n = if nat_le least n && nat_le n most then Some n else None

-- the number that a word writes, if it is within a range
abbrev pub number_within : ℕ → ℕ → List ℕ → Option ℕ
number_within least most word = option_and_then (within least most) (number_of word)

-- the number that digits write, if it is at most this, or None where a byte is no digit
abbrev pub value_up_to : ℕ → List ℕ → Option ℕ
value_up_to most digits = if all_ascii_digits digits && nat_le (decimal_value digits) most then Some (decimal_value digits) else None

-- the other way round: a word gives this number exactly where it is the number's decimal spelling, and the number is in the range
abbrev pub IsSpelled : ℕ → ℕ → List ℕ → Option ℕ → Type 0
IsSpelled least most word given = (n : ℕ) → (given ≡ Some n) ↔ ((least ≤ n) × (n ≤ most) × (word ≡ decimal n))
