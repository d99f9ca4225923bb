-- The first line of a file stands before its first line feed.
use Rattle.std.proofs.Common.{◌≡◌, ℕ, ◌+◌, ◌<◌, ◌≤◌, Bool, true, false, eqb, List, [], ◌∷◌, length, take, drop, suc, refl, ap, ◌∙◌, arith}
use Rattle.std.proofs.lemmas.List.{take_all, drop_all}
use Rattle.std.specs.List.{before_first, after_first, position_or_len, onto_first}
use Rattle.event_list.specs.Lines.{lines}

abbrev is_feed : ℕ → Bool
is_feed b = eqb b 10

abbrev Splits : List ℕ → Type 0
Splits bytes = lines bytes ≡ before_first (λ b. eqb b 10) bytes ∷ lines (after_first (λ b. eqb b 10) bytes)

-- one byte more in front of the first line
onto_line : (b place : ℕ) (bytes : List ℕ) → lines bytes ≡ take place bytes ∷ lines (drop (place + 1) bytes) →
    onto_first b (lines bytes) ≡ take (1 + place) (b ∷ bytes) ∷ lines (drop (1 + place + 1) (b ∷ bytes))
onto_line b place bytes is =
    let one : 1 + place ≡ suc place = omega arith in
    let two : suc place + 1 ≡ suc (place + 1) = omega arith in
    rw (one, two) (ap (onto_first b) is)

-- by whether the first byte is a line feed, and whether bytes follow it
by_first : (feed : Bool) (b : ℕ) (more : List ℕ) → eqb b 10 ≡ feed → (0 < length more → Splits more) → Splits (b ∷ more)
unfolding lines
by_first true b more is others = rw is refl
by_first false b [] is others = rw is refl
by_first false b (c ∷ more) is others = rw is (onto_line b (position_or_len is_feed (c ∷ more)) (c ∷ more) (others (omega arith)))

-- the lines of bytes that are not empty: that before the first line feed, and those after it
pub first_of_lines : (bytes : List ℕ) → 0 < length bytes → lines bytes ≡ before_first (λ b. eqb b 10) bytes ∷ lines (after_first (λ b. eqb b 10) bytes)
first_of_lines [] some = absurd (omega arith)
first_of_lines (b ∷ more) some = by_first (eqb b 10) b more refl (first_of_lines more)

-- bytes without a line feed
pub one_line : (bytes : List ℕ) → 0 < length bytes → length bytes ≤ position_or_len (λ b. eqb b 10) bytes → lines bytes ≡ bytes ∷ lines []
one_line bytes some le =
    first_of_lines bytes some ∙ ap (λ (line : List ℕ). line ∷ lines (after_first is_feed bytes)) (take_all (position_or_len is_feed bytes) bytes le) ∙ ap (λ (rest : List ℕ). bytes ∷ lines rest) (drop_all (position_or_len is_feed bytes + 1) bytes (omega arith))
