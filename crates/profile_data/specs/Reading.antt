-- Reading a profile from the front of its bytes to their end, with the first test that fails.
use Rattle.std.specs.Prelude.{ℕ, ◌+◌, ◌*◌, ◌%◌, ◌==◌, nat_lt, nat_le, not, ◌&&◌, Bool, if◌then◌else◌, List, [], ◌∷◌, ◌++◌, length, is_some, Result, Ok, Err}
use Rattle.std.specs.List.{sum_by}
use Rattle.word_format.specs.declared.error.AddressErr.{AddressErr}
use Rattle.word_format.specs.declared.error.AddressErr.TheVariants as address
use Rattle.word_format.specs.Reading.{◌>>=◌, GivesOr, with_error, word_or, long_or, entries, is_aligned, addresses_in}
use Rattle.profile_data.specs.declared.error.ProfileErr.{ProfileErr}
use Rattle.profile_data.specs.declared.error.ProfileErr.TheVariants.{Short, Magic, Version, Mark, TooMany, Kind, Range, Twice, Order, Sum, Long, Memory}
use Rattle.profile_data.specs.declared.header.Header.{Header}
use Rattle.profile_data.specs.declared.entry.Head.{Head}
use Rattle.profile_data.specs.Profile.{Tally, Profiled, row_at, target_count, executed_of}

-- What a call returned, seen by view, is what reading gives, or it is want of memory.
abbrev pub Gives : {X Y : Type 0} → (X → Y) → Result X ProfileErr → Result Y ProfileErr → Type 0
Gives view result read = GivesOr Memory view result read

-- the number in the next four bytes, and the bytes after it
abbrev pub next_word : List ℕ → Result (ℕ × List ℕ) ProfileErr
next_word bytes = word_or Short bytes

-- the number in the next eight bytes, and the bytes after it
abbrev pub next_long : List ℕ → Result (ℕ × List ℕ) ProfileErr
next_long bytes = long_or Short bytes

-- ---- the header

-- the tests of the header, in their order
abbrev pub admit_header : ℕ → ℕ → Header → Result Header ProfileErr
admit_header magic version h =
    if not (magic == 0x4650_534D) then Err Magic
    else if not (version == 1) then Err Version
    else if nat_lt 1 h.ended then Err Mark
    else if nat_lt 524_288 h.rows then Err TooMany
    else Ok h

-- the header, and what stands behind
unfoldable pub next_header : List ℕ → Result (Header × List ℕ) ProfileErr
next_header bytes = if nat_lt (length bytes) 24 then Err Short else do
  magic ← next_word bytes
  version ← next_word magic.1
  steps ← next_long version.1
  ended ← next_word steps.1
  rows ← next_word ended.1
  header ← admit_header magic.0 version.0 (record { steps = steps.0; ended = ended.0; rows = rows.0 })
  Ok (header, rows.1)

-- ---- targets, which rise

-- the error of the targets of row i: all of them have its number
abbrev pub targets_err : ℕ → AddressErr → ProfileErr
targets_err i address.Short = Short
targets_err i (address.Range j) = Range i
targets_err i (address.Order j) = Order i
targets_err i address.Memory = Memory

-- the targets of row i
abbrev pub targets_in : ℕ → ℕ → List ℕ → Result (List ℕ × List ℕ) ProfileErr
targets_in i count bytes = with_error (targets_err i) (addresses_in count bytes)

-- ---- rows

-- The tests of row i up to its targets. Whether an earlier row has its pc, how many targets the earlier rows list, and how many bytes are left for its own play a part.
abbrev pub admit_head : ℕ → Bool → ℕ → ℕ → Head → Result Head ProfileErr
admit_head i is_there targets left h =
    if nat_lt 3 h.flags then Err (Kind i)
    else if not (is_aligned h.pc && nat_le 1 h.executed && nat_le h.taken h.executed) then Err (Range i)
    else if is_there then Err (Twice i)
    else if nat_lt 1_048_576 (targets + h.targets) then Err TooMany
    else if nat_lt left (4 * h.targets) then Err Short
    else Ok h

-- what stands before the targets of row i
unfoldable pub next_head : ℕ → List Tally → List ℕ → Result (Head × List ℕ) ProfileErr
next_head i before bytes = do
  pc ← next_word bytes
  flags ← next_word pc.1
  executed ← next_long flags.1
  taken ← next_long executed.1
  targets ← next_word taken.1
  h ← admit_head i (is_some (row_at before pc.0)) (target_count before) (length targets.1) (record { pc = pc.0; flags = flags.0; executed = executed.0; taken = taken.0; targets = targets.0 })
  Ok (h, targets.1)

-- the row that these numbers and targets are
abbrev pub tally_from : Head → List ℕ → Tally
tally_from h to = record { pc = h.pc; executed = h.executed; taken = h.taken; read = h.flags % 2 == 1; changed = nat_le 2 h.flags; targets = to }

-- the row of number i, and what stands behind
unfoldable pub next_row : ℕ → List Tally → List ℕ → Result (Tally × List ℕ) ProfileErr
next_row i before bytes = do
  h ← next_head i before bytes
  to ← targets_in i h.0.targets h.1
  Ok (tally_from h.0 to.0, to.1)

-- seen are the rows before
abbrev pub rows_in : ℕ → List ℕ → Result (List Tally × List ℕ) ProfileErr
rows_in count bytes = entries next_row (λ before t. before ++ t ∷ []) count 0 [] bytes

-- ---- the whole

-- the tests that come after all rows: so many bytes are left
abbrev pub admit_profile : ℕ → Profiled → Result Profiled ProfileErr
admit_profile left p =
    if not (sum_by executed_of p.rows == p.steps) then Err Sum
    else if not (left == 0) then Err Long
    else Ok p

-- all of the bytes
unfoldable pub profile_from : List ℕ → Result Profiled ProfileErr
profile_from bytes = do
  h ← next_header bytes
  rows ← rows_in h.0.rows h.1
  admit_profile (length rows.1) (record { steps = h.0.steps; ended = h.0.ended == 1; rows = rows.0 })
