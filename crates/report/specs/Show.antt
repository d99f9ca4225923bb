-- The text of an image, line by line.
use Rattle.std.specs.Prelude.{ℕ, ◌+◌, ◌==◌, List, [], ◌∷◌, ◌++◌, codes, decimal, map, if◌then◌else◌}
use Rattle.std.specs.List.{flat_map}
use Rattle.dist_image.specs.declared.image.Slot.{Slot}
use Rattle.dist_image.specs.declared.image.Slot.TheVariants.{Exec, Go, Fork}
use Rattle.dist_image.specs.declared.image.Anchor.{Anchor}
use Rattle.dist_image.specs.declared.image.Note.{Note}
use Rattle.dist_image.specs.Image.{Premise, Cut, Targets, Dead, Code, Within, Span, Same, Distilled}
use Rattle.report.specs.Text.{hex_word, line}

-- the limit, behind the version where that isn't the first
abbrev pub head_text : ℕ → ℕ → List ℕ
head_text version limit = (if version == 1 then [] else line (codes "version") (decimal version ∷ [])) ++ line (codes "limit") (decimal limit ∷ [])

-- the line of slot i
abbrev pub slot_line : ℕ → Slot → List ℕ
slot_line i (Exec origin word) = line (codes "slot") (decimal i ∷ codes "exec" ∷ hex_word origin ∷ hex_word word ∷ [])
slot_line i (Go target) = line (codes "slot") (decimal i ∷ codes "go" ∷ hex_word target ∷ [])
slot_line i (Fork anchor) = line (codes "slot") (decimal i ∷ codes "fork" ∷ decimal anchor ∷ [])

-- the line of anchor i
abbrev pub anchor_line : ℕ → Anchor → List ℕ
anchor_line i a = line (codes "anchor") (decimal i ∷ codes "pc" ∷ hex_word a.pc ∷ codes "slot" ∷ decimal a.slot ∷ codes "count" ∷ decimal a.count ∷ [])

-- the line of a note
abbrev pub note_line : Note → List ℕ
note_line n = line (codes "note") (hex_word n.pc ∷ codes "slot" ∷ decimal n.slot ∷ codes "live" ∷ hex_word n.live ∷ codes "need" ∷ hex_word n.need ∷ [])

-- the kind of an assumption
abbrev pub kind_word : Premise → List ℕ
kind_word (Cut at taken) = codes "cut"
kind_word (Targets at to) = codes "targets"
kind_word (Dead at) = codes "dead"
kind_word Code = codes "code"
kind_word Within = codes "within"
kind_word Span = codes "span"
kind_word (Same at value) = codes "same"

-- the program counter that it speaks of, if there is one
abbrev pub place_words : Premise → List (List ℕ)
place_words (Cut at taken) = hex_word at ∷ []
place_words (Targets at to) = hex_word at ∷ []
place_words (Dead at) = hex_word at ∷ []
place_words (Same at value) = hex_word at ∷ []
place_words _ = []

-- what it says of that: the side that is cut, the targets, or the value that is loaded
abbrev pub detail_words : Premise → List (List ℕ)
detail_words (Cut at taken) = (if taken then codes "taken" else codes "fallen") ∷ []
detail_words (Targets at to) = map hex_word to
detail_words (Same at value) = hex_word value ∷ []
detail_words _ = []

-- the line of an assumption
abbrev pub premise_line : Premise → List ℕ
premise_line p = line (kind_word p) (place_words p ++ detail_words p)

-- a pc of a call at which a task may print
abbrev pub write_line : ℕ → List ℕ
write_line pc = line (codes "writes") (hex_word pc ∷ [])

-- the lines of entries that are numbered from i on
abbrev pub lines_from : {A : Type 0} → (ℕ → A → List ℕ) → ℕ → List A → List ℕ
lines_from entry_line i [] = []
lines_from entry_line i (x ∷ more) = entry_line i x ++ lines_from entry_line (i + 1) more

-- the head, and the slots and the anchors, which are numbered from 0 on
abbrev pub places_text : Distilled → List ℕ
places_text image = head_text image.version image.limit ++ (lines_from slot_line 0 image.slots ++ lines_from anchor_line 0 image.anchors)

-- the notes, the assumptions and the writes
abbrev pub facts_text : Distilled → List ℕ
facts_text image = flat_map note_line image.notes ++ (flat_map premise_line image.assumptions ++ flat_map write_line image.writes)

-- the text of an image
abbrev pub image_text : Distilled → List ℕ
image_text image = places_text image ++ facts_text image
