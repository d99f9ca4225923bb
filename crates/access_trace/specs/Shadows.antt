-- The mark of each byte. Where the four bytes of a word have the same it is kept once, and else each has its own.
use Rattle.std.specs.Prelude.{◌≡◌, ℕ, ◌+◌, ◌-◌, ◌*◌, ◌%◌, ◌^◌, ◌==◌, zero, suc, Bool, true, false, if◌then◌else◌}
use Rattle.fitting.specs.Claims.{among}
use Rattle.profile_laws.specs.Tally.{bytes_in}
use Rattle.access_trace.specs.Spans.{span_of}
use Rattle.access_trace.specs.declared.span.ByteRange.{ByteRange}
use Rattle.access_trace.specs.declared.shadow.Shadow.{Shadow}

-- the number that the four bytes from an address on spell, the lowest first
abbrev pub spelled : ℕ → (ℕ → ℕ) → ℕ
spelled a f = f a + 2 ^ 8 * (f (a + 1) + 2 ^ 8 * (f (a + 2) + 2 ^ 8 * f (a + 3)))

-- all words are the same as before, but one
abbrev pub AreOthersSame : (ℕ → ℕ) → (ℕ → ℕ) → ℕ → Type 0
AreOthersSame before after word = (x : ℕ) → x % 4 ≡ 0 → (x ≡ word → ⊥) → spelled x after ≡ spelled x before

-- the first byte of the word in which a byte lies
abbrev pub word_of : ℕ → ℕ
word_of a = a - a % 4

-- what is kept of a word whose bytes have marks of their own
abbrev pub apart : ℕ
apart = 2 ^ 32 - 1

-- the mark of a byte: its word's where the word is marked as a whole, else the byte's own
abbrev pub mark_of : ℕ → ℕ → ℕ
mark_of whole own = if whole == apart then own else whole

module _ {M : Type 0} where
  -- the memory that keeps the own mark of a byte at this place in its word
  abbrev pub lane : Shadow M → ℕ → M
  lane s zero = s.first
  lane s (suc zero) = s.second
  lane s (suc (suc zero)) = s.third
  lane s _ = s.fourth

  -- the mark that a byte has of its own
  abbrev pub own_at : (M → ℕ → ℕ) → Shadow M → ℕ → ℕ
  own_at at s a = spelled (word_of a) (at (lane s (a % 4)))

  abbrev pub mark_at : (M → ℕ → ℕ) → Shadow M → ℕ → ℕ
  mark_at at s a = mark_of (spelled (word_of a) (at s.whole)) (own_at at s a)

  -- the own marks of the bytes of all words are the same as before, but of one
  abbrev pub AreOthersOwn : (M → ℕ → ℕ) → Shadow M → Shadow M → ℕ → Type 0
  AreOthersOwn at before after word = (x place : ℕ) → x % 4 ≡ 0 → (x ≡ word → ⊥) → spelled x (at (lane after place)) ≡ spelled x (at (lane before place))

  -- each byte of a span has this mark
  abbrev pub AreMarked : (M → ℕ → ℕ) → Shadow M → ByteRange → ℕ → Type 0
  AreMarked at s span mark = (a : ℕ) → among (bytes_in (span_of span)) a ≡ true → mark_at at s a ≡ mark

  -- a span has this mark of its own: each of its bytes does
  abbrev pub HasOwn : (M → ℕ → ℕ) → Shadow M → ByteRange → ℕ → Type 0
  HasOwn at s span mark = (a : ℕ) → among (bytes_in (span_of span)) a ≡ true → own_at at s a ≡ mark

  -- the mark of each byte of a span is that of its own
  abbrev pub AreApart : (M → ℕ → ℕ) → Shadow M → ByteRange → Type 0
  AreApart at s span = (a : ℕ) → among (bytes_in (span_of span)) a ≡ true → mark_at at s a ≡ own_at at s a

  -- these bytes have this mark, and each other byte the mark of before
  abbrev pub AreMarkedSo : (M → ℕ → ℕ) → Shadow M → Shadow M → (ℕ → Bool) → ℕ → Type 0
  AreMarkedSo at before after these mark = (a : ℕ) → mark_at at after a ≡ (if these a then mark else mark_at at before a)

  -- each byte outside a span has the mark of before
  abbrev pub AreSameOutside : (M → ℕ → ℕ) → Shadow M → Shadow M → ByteRange → Type 0
  AreSameOutside at before after span = (a : ℕ) → among (bytes_in (span_of span)) a ≡ false → mark_at at after a ≡ mark_at at before a
