-- Reading an image from the front of its bytes to their end, with the first test that fails.
use Rattle.std.specs.Prelude.{ℕ, ◌+◌, ◌*◌, ◌%◌, ◌^◌, ◌==◌, nat_lt, nat_le, not, ◌&&◌, ◌||◌, Bool, if◌then◌else◌, List, length, Option, Some, None, Result, Ok, Err}
use Rattle.word_format.specs.declared.error.AddressErr.{AddressErr}
use Rattle.word_format.specs.declared.error.AddressErr.TheVariants as address
use Rattle.word_format.specs.Reading.{◌>>=◌, GivesOr, with_error, word_or, entries, is_aligned, addresses_in}
use Rattle.dist_image.specs.declared.error.Table.TheVariants as table
use Rattle.dist_image.specs.declared.error.ImageErr.{ImageErr}
use Rattle.dist_image.specs.declared.error.ImageErr.TheVariants.{Short, Magic, Version, Limit, TooMany, Kind, Range, Order, Long, Memory}
use Rattle.dist_image.specs.declared.image.Slot.{Slot}
use Rattle.dist_image.specs.declared.image.Slot.TheVariants.{Exec, Go, Fork}
use Rattle.dist_image.specs.declared.image.Anchor.{Anchor}
use Rattle.dist_image.specs.declared.image.Note.{Note}
use Rattle.dist_image.specs.declared.header.Header.{Header}
use Rattle.dist_image.specs.declared.entry.Head.{Head}
use Rattle.dist_image.specs.Image.{Premise, Cut, Targets, Dead, Code, Within, Span, Same, Distilled, key_of, targets_of, most_steps}

-- What a call returned, seen by view, is what reading gives, or it is want of memory.
abbrev pub Gives : {X Y : Type 0} → (X → Y) → Result X ImageErr → Result Y ImageErr → Type 0
Gives view result read = GivesOr Memory view result read

-- the number in the next four bytes, and the bytes after it
abbrev pub next_word : List ℕ → Result (ℕ × List ℕ) ImageErr
next_word bytes = word_or Short bytes

-- ---- the header

-- the tests of the magic number and the version
abbrev pub admit_version : ℕ → ℕ → Result ℕ ImageErr
admit_version magic version =
    if not (magic == 0x5053_534D) then Err Magic
    else if not (version == 1 || version == 2) then Err Version
    else Ok version

-- the magic number and the version, and what stands behind
unfoldable pub next_version : List ℕ → Result (ℕ × List ℕ) ImageErr
next_version bytes = do
  magic ← next_word bytes
  version ← next_word magic.1
  known ← admit_version magic.0 version.0
  Ok (known, version.1)

-- the number of writes: the first version has none, and does not count them
abbrev pub next_write_count : ℕ → List ℕ → Result (ℕ × List ℕ) ImageErr
next_write_count version bytes = if version == 1 then Ok (0, bytes) else next_word bytes

-- the tests of what follows, in their order
abbrev pub admit_header : Header → Result Header ImageErr
admit_header h =
    if not (nat_le 16 h.limit && nat_le h.limit (most_steps h.version)) then Err Limit
    else if nat_lt 1_048_576 h.slots then Err (TooMany table.Slots)
    else if nat_lt 524_288 h.anchors then Err (TooMany table.Anchors)
    else if nat_lt 524_288 h.notes then Err (TooMany table.Notes)
    else if nat_lt 1_048_576 h.assumptions then Err (TooMany table.Assumptions)
    else if nat_lt 524_288 h.writes then Err (TooMany table.Writes)
    else Ok h

-- the header, and what stands behind
unfoldable pub next_header : List ℕ → Result (Header × List ℕ) ImageErr
next_header bytes = if nat_lt (length bytes) 28 then Err Short else do
  version ← next_version bytes
  limit ← next_word version.1
  slots ← next_word limit.1
  anchors ← next_word slots.1
  notes ← next_word anchors.1
  assumptions ← next_word notes.1
  writes ← next_write_count version.0 assumptions.1
  header ← admit_header (record { version = version.0; limit = limit.0; slots = slots.0; anchors = anchors.0; notes = notes.0; assumptions = assumptions.0; writes = writes.0 })
  Ok (header, writes.1)

-- ---- slots

-- the slot of a kind and two numbers, where the kind is known and what must be 0 is
abbrev pub slot_from : ℕ → ℕ → ℕ → Option Slot
slot_from kind a b =
    if kind == 0 then Some (Exec a b)
    else if kind == 1 && b == 0 then Some (Go a)
    else if kind == 2 && b == 0 then Some (Fork a)
    else None

-- whether a slot is in range, beside this number of anchors
abbrev pub is_slot : ℕ → Slot → Bool
is_slot anchors (Exec origin word) = is_aligned origin
is_slot anchors (Go target) = is_aligned target
is_slot anchors (Fork anchor) = nat_lt anchor anchors

-- the tests of slot i
abbrev pub admit_slot : ℕ → ℕ → Option Slot → Result Slot ImageErr
admit_slot anchors i None = Err (Kind table.Slots i)
admit_slot anchors i (Some s) = if is_slot anchors s then Ok s else Err (Range table.Slots i)

-- the slot of number i, and what stands behind
unfoldable pub next_slot : ℕ → ℕ → List ℕ → Result (Slot × List ℕ) ImageErr
next_slot anchors i bytes = do
  kind ← next_word bytes
  a ← next_word kind.1
  b ← next_word a.1
  s ← admit_slot anchors i (slot_from kind.0 a.0 b.0)
  Ok (s, b.1)

-- ---- anchors and notes: the pc of each is at least the one that is due, which is above the one before

-- an anchor that is in range and stands behind the one before, or what it breaks
abbrev pub admit_anchor : ℕ → ℕ → ℕ → Anchor → Result Anchor ImageErr
admit_anchor slots i due a =
    if not (is_aligned a.pc && nat_lt a.slot slots && nat_le 1 a.count && nat_le a.count 64) then Err (Range table.Anchors i)
    else if nat_lt a.pc due then Err (Order table.Anchors i)
    else Ok a

-- the anchor of number i, and what stands behind
unfoldable pub next_anchor : ℕ → ℕ → ℕ → List ℕ → Result (Anchor × List ℕ) ImageErr
next_anchor slots i due bytes = do
  pc ← next_word bytes
  slot ← next_word pc.1
  count ← next_word slot.1
  a ← admit_anchor slots i due (record { pc = pc.0; slot = slot.0; count = count.0 })
  Ok (a, count.1)

-- whether a word is a mask of registers: bit 0 is clear
abbrev pub is_mask : ℕ → Bool
is_mask m = m % 2 == 0

-- a note that is in range and stands behind the one before, or what it breaks
abbrev pub admit_note : ℕ → ℕ → ℕ → Note → Result Note ImageErr
admit_note slots i due n =
    if not (is_aligned n.pc && nat_lt n.slot slots && is_mask n.live && is_mask n.need) then Err (Range table.Notes i)
    else if nat_lt n.pc due then Err (Order table.Notes i)
    else Ok n

-- the note of number i, and what stands behind
unfoldable pub next_note : ℕ → ℕ → ℕ → List ℕ → Result (Note × List ℕ) ImageErr
next_note slots i due bytes = do
  pc ← next_word bytes
  slot ← next_word pc.1
  live ← next_word slot.1
  need ← next_word live.1
  n ← admit_note slots i due (record { pc = pc.0; slot = slot.0; live = live.0; need = need.0 })
  Ok (n, need.1)

-- ---- pcs that rise: the targets of an assumption, and the writes

-- the error of the targets of assumption i: all of them have its number
abbrev pub targets_err : ℕ → AddressErr → ImageErr
targets_err i address.Short = Short
targets_err i (address.Range j) = Range table.Targets i
targets_err i (address.Order j) = Order table.Targets i
targets_err i address.Memory = Memory

-- the targets of assumption i
abbrev pub targets_in : ℕ → ℕ → List ℕ → Result (List ℕ × List ℕ) ImageErr
targets_in i count bytes = with_error (targets_err i) (addresses_in count bytes)

-- the error of the writes: each has its own number
abbrev pub writes_err : AddressErr → ImageErr
writes_err address.Short = Short
writes_err (address.Range j) = Range table.Writes j
writes_err (address.Order j) = Order table.Writes j
writes_err address.Memory = Memory

-- so many pcs of writes, and what stands behind
abbrev pub writes_in : ℕ → List ℕ → Result (List ℕ × List ℕ) ImageErr
writes_in count bytes = with_error writes_err (addresses_in count bytes)

-- ---- assumptions

-- whether the version knows the kind of an assumption, and the other numbers have a meaning for it
abbrev pub has_form : ℕ → Head → Bool
has_form version h =
    if h.kind == 0 then nat_le h.value 1 && h.targets == 0
    else if h.kind == 1 then h.value == 0
    else if h.kind == 2 then h.value == 0 && h.targets == 0
    else if h.kind == 6 then not (version == 1) && h.targets == 0
    else nat_le h.kind 5 && h.at == 0 && h.value == 0 && h.targets == 0

-- The tests of assumption i up to its targets: the key that is due, the number of targets before it, and the number of bytes after these four numbers play a part.
abbrev pub admit_head : ℕ → ℕ → ℕ → ℕ → ℕ → Head → Result Head ImageErr
admit_head version i due before left h =
    if not (has_form version h) then Err (Kind table.Assumptions i)
    else if not (is_aligned h.at) then Err (Range table.Assumptions i)
    else if nat_lt (2 ^ 32 * h.kind + h.at) due then Err (Order table.Assumptions i)
    else if nat_lt 1_048_576 (before + h.targets) then Err (TooMany table.Targets)
    else if nat_lt left (4 * h.targets) then Err Short
    else Ok h

-- the first four words of an assumption, and what stands behind
unfoldable pub next_head : ℕ → ℕ → ℕ → ℕ → List ℕ → Result (Head × List ℕ) ImageErr
next_head version i due before bytes = do
  kind ← next_word bytes
  at ← next_word kind.1
  value ← next_word at.1
  targets ← next_word value.1
  h ← admit_head version i due before (length targets.1) (record { kind = kind.0; at = at.0; value = value.0; targets = targets.0 })
  Ok (h, targets.1)

-- the assumption that these numbers and targets are
abbrev pub premise_from : Head → List ℕ → Premise
premise_from h to =
    if h.kind == 0 then Cut h.at (h.value == 1)
    else if h.kind == 1 then Targets h.at to
    else if h.kind == 2 then Dead h.at
    else if h.kind == 3 then Code
    else if h.kind == 4 then Within
    else if h.kind == 5 then Span
    else Same h.at h.value

-- seen are the key that is due, and the number of targets so far
unfoldable pub next_premise : ℕ → ℕ → ℕ × ℕ → List ℕ → Result (Premise × List ℕ) ImageErr
next_premise version i seen bytes = do
  h ← next_head version i seen.0 seen.1 bytes
  to ← targets_in i h.0.targets h.1
  Ok (premise_from h.0 to.0, to.1)

-- what is known behind an assumption: the least key that may follow, and how many targets there were
abbrev pub see_premise : ℕ × ℕ → Premise → ℕ × ℕ
see_premise seen p = (key_of p + 1, seen.1 + length (targets_of p))

-- ---- the tables, and the whole

-- so many slots, and what stands behind
abbrev pub slots_in : ℕ → ℕ → List ℕ → Result (List Slot × List ℕ) ImageErr
slots_in anchors count bytes = entries {S = ℕ} (λ i _ rest. next_slot anchors i rest) (λ seen _. seen) count 0 0 bytes

-- so many anchors, and what stands behind
abbrev pub anchors_in : ℕ → ℕ → List ℕ → Result (List Anchor × List ℕ) ImageErr
anchors_in slots count bytes = entries {S = ℕ} (next_anchor slots) (λ _ a. a.pc + 1) count 0 0 bytes

-- so many notes, and what stands behind
abbrev pub notes_in : ℕ → ℕ → List ℕ → Result (List Note × List ℕ) ImageErr
notes_in slots count bytes = entries {S = ℕ} (next_note slots) (λ _ n. n.pc + 1) count 0 0 bytes

-- so many assumptions, and what stands behind
abbrev pub premises_in : ℕ → ℕ → List ℕ → Result (List Premise × List ℕ) ImageErr
premises_in version count bytes = entries (next_premise version) see_premise count 0 (0, 0) bytes

-- all of the bytes
unfoldable pub image_from : List ℕ → Result Distilled ImageErr
image_from bytes = do
  h ← next_header bytes
  slots ← slots_in h.0.anchors h.0.slots h.1
  anchors ← anchors_in h.0.slots h.0.anchors slots.1
  notes ← notes_in h.0.slots h.0.notes anchors.1
  assumptions ← premises_in h.0.version h.0.assumptions notes.1
  writes ← writes_in h.0.writes assumptions.1
  if length writes.1 == 0 then Ok (record { version = h.0.version; limit = h.0.limit; slots = slots.0; anchors = anchors.0; notes = notes.0; assumptions = assumptions.0; writes = writes.0 }) else Err Long
