-- Reading a list of values from the front of its bytes to their end, with the first test that fails.
use Rattle.std.specs.Prelude.{ℕ, ◌+◌, ◌==◌, nat_lt, not, ◌&&◌, Bool, if◌then◌else◌, List, length, is_some, Result, Ok, Err}
use Rattle.rv_word.specs.Constant.{constant_word}
use Rattle.word_format.specs.Reading.{◌>>=◌, GivesOr, word_or, entries, is_aligned}
use Rattle.load_values.specs.declared.error.ValuesErr.{ValuesErr}
use Rattle.load_values.specs.declared.error.ValuesErr.TheVariants.{Short, Magic, Version, TooMany, Range, Order, Long, Memory}

-- What a call returned, seen by view, is what reading gives, or it is want of memory.
abbrev pub Gives : {X Y : Type 0} → (X → Y) → Result X ValuesErr → Result Y ValuesErr → Type 0
Gives view result read = GivesOr Memory view result read

-- the number in the next four bytes, and the bytes after it
abbrev pub next_word : List ℕ → Result (ℕ × List ℕ) ValuesErr
next_word bytes = word_or Short bytes

-- ---- the header

-- the tests of the header, in their order
abbrev pub admit_header : ℕ → ℕ → ℕ → Result ℕ ValuesErr
admit_header magic version rows =
    if not (magic == 0x5650_534D) then Err Magic
    else if not (version == 1) then Err Version
    else if nat_lt 524_288 rows then Err TooMany
    else Ok rows

-- the number of rows, and the bytes after the header
unfoldable pub next_header : List ℕ → Result (ℕ × List ℕ) ValuesErr
next_header bytes = if nat_lt (length bytes) 12 then Err Short else do
  magic ← next_word bytes
  version ← next_word magic.1
  rows ← next_word version.1
  count ← admit_header magic.0 version.0 rows.0
  Ok (count, rows.1)

-- ---- rows: the address of each is at least the one that is due, which is above the one before

-- one word sets a register to the value
abbrev pub has_word : ℕ → Bool
has_word value = is_some (constant_word 1 value)

-- whether a pc and a value may be a row
abbrev pub is_row : ℕ → ℕ → Bool
is_row pc value = is_aligned pc && has_word value

-- the tests of row i
abbrev pub admit_row : ℕ → ℕ → ℕ → ℕ → Result (ℕ × ℕ) ValuesErr
admit_row i due pc value =
    if not (is_row pc value) then Err (Range i)
    else if nat_lt pc due then Err (Order i)
    else Ok (pc, value)

-- the row of number i, and what stands behind
unfoldable pub next_row : ℕ → ℕ → List ℕ → Result ((ℕ × ℕ) × List ℕ) ValuesErr
next_row i due bytes = do
  pc ← next_word bytes
  value ← next_word pc.1
  row ← admit_row i due pc.0 value.0
  Ok (row, value.1)

-- so many rows, and what stands behind
abbrev pub rows_in : ℕ → List ℕ → Result (List (ℕ × ℕ) × List ℕ) ValuesErr
rows_in count bytes = entries {S = ℕ} next_row (λ _ e. e.0 + 1) count 0 0 bytes

-- ---- the whole

-- all of the bytes
unfoldable pub values_from : List ℕ → Result (List (ℕ × ℕ)) ValuesErr
values_from bytes = do
  count ← next_header bytes
  rows ← rows_in count.0 count.1
  if length rows.1 == 0 then Ok rows.0 else Err Long
