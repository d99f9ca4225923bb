-- What an image holds, which images are valid, and what is found in them at a program counter.
use Rattle.std.specs.Prelude.{◌≡◌, ℕ, ◌+◌, ◌*◌, ◌%◌, ◌^◌, ◌<◌, ◌≤◌, ◌==◌, Bool, if◌then◌else◌, List, [], ◌∷◌, length, map, find, Option, Some, None, is_some, All, ◌⊎◌}
use Rattle.std.specs.List.{sum_by}
use Rattle.std.specs.List.Sorted.{IsStrictlyIncreasing}
use Rattle.std.specs.Option.{option_map}
use Rattle.cells.specs.Cells.{IsPc}
use Rattle.dist_image.specs.declared.image.Slot.{Slot}
use Rattle.dist_image.specs.declared.image.Slot.TheVariants as slot
use Rattle.dist_image.specs.declared.image.Anchor.{Anchor}
use Rattle.dist_image.specs.declared.image.Note.{Note}
use Rattle.dist_image.specs.declared.image.Assumption.{Assumption}
use Rattle.dist_image.specs.declared.image.Assumption.TheVariants as assumption

-- an assumption, with its targets as a list
pub data Premise : Type 0 where
  Cut : (at : ℕ) (taken : Bool) → Premise
  Targets : (at : ℕ) (to : List ℕ) → Premise
  Dead : (at : ℕ) → Premise
  Code : Premise
  Within : Premise
  Span : Premise
  Same : (at : ℕ) (value : ℕ) → Premise

-- what an assumption says
abbrev pub premise : Assumption → Premise
premise (assumption.Cut at taken) = Cut at taken
premise (assumption.Targets at to) = Targets at to.items
premise (assumption.Dead at) = Dead at
premise assumption.Code = Code
premise assumption.Within = Within
premise assumption.Span = Span
premise (assumption.Same at value) = Same at value

-- an image, with its tables as lists. `writes` are the pcs of the calls at which a task may print
pub record Distilled : Type 0 where
  pub version : ℕ
  pub limit : ℕ
  pub slots : List Slot
  pub anchors : List Anchor
  pub notes : List Note
  pub assumptions : List Premise
  pub writes : List ℕ

-- a set of registers as a word with a bit for each, and none for register 0
abbrev pub IsMask : ℕ → Type 0
IsMask m = (m % 2 ≡ 0) × (m < 2 ^ 32)

-- a slot, beside this number of anchors. The word that is done in a slot may be any.
abbrev pub IsSlot : ℕ → Slot → Type 0
IsSlot anchors (slot.Exec origin word) = IsPc origin × (word < 2 ^ 32)
IsSlot anchors (slot.Go target) = IsPc target
IsSlot anchors (slot.Fork anchor) = anchor < anchors

-- an anchor, beside this number of slots
abbrev pub IsAnchor : ℕ → Anchor → Type 0
IsAnchor slots a = IsPc a.pc × (a.slot < slots) × (1 ≤ a.count) × (a.count ≤ 64)

-- a note, beside this number of slots
abbrev pub IsNote : ℕ → Note → Type 0
IsNote slots n = IsPc n.pc × (n.slot < slots) × IsMask n.live × IsMask n.need

-- the number of each kind of assumption
abbrev pub kind_of : Premise → ℕ
kind_of (Cut at taken) = 0
kind_of (Targets at to) = 1
kind_of (Dead at) = 2
kind_of Code = 3
kind_of Within = 4
kind_of Span = 5
kind_of (Same at value) = 6

-- the program counter that an assumption speaks of, or 0 where it speaks of none
abbrev pub place_of : Premise → ℕ
place_of (Cut at taken) = at
place_of (Targets at to) = at
place_of (Dead at) = at
place_of (Same at value) = at
place_of _ = 0

-- the targets that an assumption lists
abbrev pub targets_of : Premise → List ℕ
targets_of (Targets at to) = to
targets_of _ = []

-- assumptions are ordered by their kinds, and those of a kind by their program counters
abbrev pub key_of : Premise → ℕ
key_of p = 2 ^ 32 * kind_of p + place_of p

-- the assumption with a key, if there is one
abbrev pub keyed : ℕ → List Premise → Option Premise
keyed key ps = find (λ p. key_of p == key) ps

-- the value that a load is taken to load, or 0 where an assumption speaks of no load
abbrev pub loads_of : Premise → ℕ
loads_of (Same at value) = value
loads_of _ = 0

-- an assumption speaks of a pc and of a word's value; its targets are pcs, rising
abbrev pub IsPremise : Premise → Type 0
IsPremise p = IsPc (place_of p) × (loads_of p < 2 ^ 32) × All IsPc (targets_of p) × IsStrictlyIncreasing (targets_of p)

-- how many targets are listed in all
abbrev pub target_count : List Premise → ℕ
target_count ps = sum_by (λ p. length (targets_of p)) ps

-- an assumption that the first version knows
abbrev pub IsKnownAtFirst : Premise → Type 0
IsKnownAtFirst (Same at value) = ⊥
IsKnownAtFirst _ = Unit {0}

-- the longest task of a version
abbrev pub most_steps : ℕ → ℕ
most_steps version = if version == 1 then 16_384 else 4_096

-- the first version knows no call that a task does, and no load of one value
abbrev pub IsPlain : Distilled → Type 0
IsPlain image = (image.writes ≡ []) × All IsKnownAtFirst image.assumptions

-- A valid image: the version and the task limit, the greatest numbers of entries, the range of each entry, and the order of each table.
pub record IsImage (image : Distilled) : Type 0 where
  pub version : (image.version ≡ 1) ⊎ (image.version ≡ 2)
  pub plain : image.version ≡ 1 → IsPlain image
  pub limit : (16 ≤ image.limit) × (image.limit ≤ most_steps image.version)
  pub few_slots : length image.slots ≤ 1_048_576
  pub few_anchors : length image.anchors ≤ 524_288
  pub few_notes : length image.notes ≤ 524_288
  pub few_assumptions : length image.assumptions ≤ 1_048_576
  pub few_targets : target_count image.assumptions ≤ 1_048_576
  pub slots : All (IsSlot (length image.anchors)) image.slots
  pub anchors : All (IsAnchor (length image.slots)) image.anchors
  pub anchors_rise : IsStrictlyIncreasing (map (λ (a : Anchor). a.pc) image.anchors)
  pub notes : All (IsNote (length image.slots)) image.notes
  pub notes_rise : IsStrictlyIncreasing (map (λ (n : Note). n.pc) image.notes)
  pub assumptions : All IsPremise image.assumptions
  pub assumptions_rise : IsStrictlyIncreasing (map key_of image.assumptions)
  pub few_writes : length image.writes ≤ 524_288
  pub writes : All IsPc image.writes
  pub writes_rise : IsStrictlyIncreasing image.writes

-- the note at a program counter, if there is one
abbrev pub note_at : Distilled → ℕ → Option Note
note_at image pc = find (λ (n : Note). n.pc == pc) image.notes

-- the slot at a program counter: that of its note
abbrev pub slot_of : Distilled → ℕ → Option ℕ
slot_of image pc = option_map (λ (n : Note). n.slot) (note_at image pc)

-- the number of the first anchor at a program counter, where the anchors are numbered from i on
abbrev pub anchor_from : ℕ → List Anchor → ℕ → Option ℕ
anchor_from i [] pc = None
anchor_from i (a ∷ more) pc = if a.pc == pc then Some i else anchor_from (i + 1) more pc

-- the number of the anchor at a program counter, if there is one
abbrev pub anchor_at : Distilled → ℕ → Option ℕ
anchor_at image pc = anchor_from 0 image.anchors pc

-- whether a task may print at a program counter
abbrev pub prints_at : Distilled → ℕ → Bool
prints_at image pc = is_some (find (λ w. w == pc) image.writes)

-- the image of a run that nothing is known of
abbrev pub nothing_known : Distilled
nothing_known = record { version = 1; limit = 16; slots = []; anchors = []; notes = []; assumptions = []; writes = [] }
