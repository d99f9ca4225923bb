-- The bytes of an image. All numbers have four bytes, the lowest first.
use Rattle.std.specs.Prelude.{ℕ, ◌==◌, if◌then◌else◌, List, [], ◌∷◌, ◌++◌, length}
use Rattle.std.specs.List.{flat_map}
use Rattle.word_format.specs.Bytes.{words}
use Rattle.dist_image.specs.declared.image.Slot.{Slot}
use Rattle.dist_image.specs.declared.image.Slot.TheVariants.{Exec, Go, Fork}
use Rattle.dist_image.specs.declared.image.Anchor.{Anchor}
use Rattle.dist_image.specs.declared.image.Note.{Note}
use Rattle.dist_image.specs.Image.{Premise, Cut, Same, Distilled, kind_of, place_of, targets_of}

-- The magic number is the text `MSSP`. Only from the second version on the writes are counted.
abbrev pub header_words : Distilled → List ℕ
header_words image =
    0x5053_534D ∷ image.version ∷ image.limit ∷ length image.slots ∷ length image.anchors ∷ length image.notes ∷ length image.assumptions
    ∷ (if image.version == 1 then [] else length image.writes ∷ [])

-- a slot's kind and two numbers, of which the second is 0 where there is only one
abbrev pub slot_words : Slot → List ℕ
slot_words (Exec origin word) = 0 ∷ origin ∷ word ∷ []
slot_words (Go target) = 1 ∷ target ∷ 0 ∷ []
slot_words (Fork anchor) = 2 ∷ anchor ∷ 0 ∷ []

-- the words of an anchor
abbrev pub anchor_words : Anchor → List ℕ
anchor_words a = a.pc ∷ a.slot ∷ a.count ∷ []

-- the words of a note
abbrev pub note_words : Note → List ℕ
note_words n = n.pc ∷ n.slot ∷ n.live ∷ n.need ∷ []

-- 1 for a cut of the taken side, and for a load of one value the value; else 0
abbrev pub value_of : Premise → ℕ
value_of (Cut at taken) = if taken then 1 else 0
value_of (Same at value) = value
value_of _ = 0

-- an assumption's kind, place and value, the number of its targets, and its targets
abbrev pub premise_words : Premise → List ℕ
premise_words p = kind_of p ∷ place_of p ∷ value_of p ∷ length (targets_of p) ∷ targets_of p

-- a table, entry by entry
abbrev pub table_bytes : {A : Type 0} → (A → List ℕ) → List A → List ℕ
table_bytes entry_words entries = flat_map (λ x. words (entry_words x)) entries

-- the header, the four tables of entries, and the writes
abbrev pub bytes_of : Distilled → List ℕ
bytes_of image =
    words (header_words image)
    ++ (table_bytes slot_words image.slots
    ++ (table_bytes anchor_words image.anchors
    ++ (table_bytes note_words image.notes
    ++ (table_bytes premise_words image.assumptions
    ++ words image.writes))))
