-- Reading numbers and entries from the front of some bytes, with the first test that fails.
use Rattle.std.specs.Prelude.{◌≡◌, ℕ, zero, suc, ◌+◌, ◌%◌, ◌==◌, nat_lt, not, Bool, if◌then◌else◌, ◌⊎◌, List, [], ◌∷◌, length, take, drop, Result, Ok, Err}
use Rattle.std.specs.Int.{w32, w64, from_le_bytes}
use Rattle.word_format.specs.declared.error.AddressErr.{AddressErr}
use Rattle.word_format.specs.declared.error.AddressErr.TheVariants.{Short, Range, Order}

-- one step and then another, unless the first fails
infixl 10 ◌>>=◌
abbrev pub ◌>>=◌ : {A B E : Type 0} → Result A E → (A → Result B E) → Result B E
(Ok x) >>= f = f x
(Err e) >>= f = Err e

-- What a call returned, seen by view, is what reading gives.
abbrev pub IsRead : {X Y E : Type 0} → (X → Y) → Result X E → Result Y E → Type 0
IsRead view (Ok x) read = read ≡ Ok (view x)
IsRead view (Err e) read = read ≡ Err e

-- What a call returned, seen by view, is what reading gives, or it is want of memory, which has this error.
abbrev pub GivesOr : {X Y E : Type 0} → E → (X → Y) → Result X E → Result Y E → Type 0
GivesOr memory view (Ok x) read = read ≡ Ok (view x)
GivesOr memory view (Err e) read = (e ≡ memory) ⊎ (read ≡ Err e)

-- what was read, with another error for each
abbrev pub with_error : {A E F : Type 0} → (E → F) → Result A E → Result A F
with_error error (Ok x) = Ok x
with_error error (Err e) = Err (error e)

-- ---- numbers: too few bytes have the error that is given first

-- the number in the next four bytes, and the bytes after it
abbrev pub word_or : {E : Type 0} → E → List ℕ → Result (ℕ × List ℕ) E
word_or short bytes = if nat_lt (length bytes) 4 then Err short else Ok (from_le_bytes w32 (take 4 bytes), drop 4 bytes)

-- the number in the next eight bytes, and the bytes after it
abbrev pub long_or : {E : Type 0} → E → List ℕ → Result (ℕ × List ℕ) E
long_or short bytes = if nat_lt (length bytes) 8 then Err short else Ok (from_le_bytes w64 (take 8 bytes), drop 8 bytes)

-- ---- entries

-- Entries one after the other, as many as are counted. What reads one is given its number, and what was seen of those before it.
unfoldable pub entries : {A S E : Type 0} → (ℕ → S → List ℕ → Result (A × List ℕ) E) → (S → A → S) → ℕ → ℕ → S → List ℕ → Result (List A × List ℕ) E
entries read see zero i seen bytes = Ok ([], bytes)
entries read see (suc n) i seen bytes = do
  first ← read i seen bytes
  others ← entries read see n (i + 1) (see seen first.0) first.1
  Ok (first.0 ∷ others.0, others.1)

-- ---- addresses of instructions, which rise: each is at least the one that is due, which is above the one before

abbrev pub is_aligned : ℕ → Bool
is_aligned a = a % 4 == 0

-- the tests of address i
abbrev pub admit_address : ℕ → ℕ → ℕ → Result ℕ AddressErr
admit_address i due a =
    if not (is_aligned a) then Err (Range i)
    else if nat_lt a due then Err (Order i)
    else Ok a

unfoldable pub next_address : ℕ → ℕ → List ℕ → Result (ℕ × List ℕ) AddressErr
next_address i due bytes = do
  word ← word_or Short bytes
  a ← admit_address i due word.0
  Ok (a, word.1)

abbrev pub addresses_in : ℕ → List ℕ → Result (List ℕ × List ℕ) AddressErr
addresses_in count bytes = entries {S = ℕ} next_address (λ _ a. a + 1) count 0 0 bytes
