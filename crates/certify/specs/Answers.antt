-- The rules of fitting, each at a pc, and which one is the first that is broken.
use Rattle.std.specs.Prelude.{◌≡◌, ℕ, ◌<◌, zero, suc, slice_get, Some}
use Rattle.dist_image.specs.declared.image.Slot.TheVariants.{Fork}
use Rattle.dist_image.specs.declared.image.Anchor.{Anchor}
use Rattle.dist_image.specs.declared.image.Note.{Note}
use Rattle.dist_image.specs.Image.{Code, Within, Span, Distilled, slot_of}
use Rattle.fitting.specs.Claims.{claims}
use Rattle.fitting.specs.Fits.{Fits, IsListed, IsDone, IsPlaced, MayPass, IsAimed, LiveFits, NeedFits, instruction, goes_on, need_at}
use Rattle.certify.specs.declared.fit.Fit.{Fit}
use Rattle.certify.specs.declared.fit.Fit.TheVariants.{Yes, No}

-- Code, Within and Span are listed
abbrev pub AreListed : Distilled → Type 0
AreListed image = IsListed image.assumptions Code × IsListed image.assumptions Within × IsListed image.assumptions Span

-- the slot at an anchor's place is the fork of its number
abbrev pub IsForked : Distilled → ℕ → Anchor → Type 0
IsForked image k a = (slot_of image a.pc ≡ Some a.slot) × (slice_get image.slots a.slot ≡ Some (Fork k))

module _ (word : ℕ → ℕ) (image : Distilled) where
  -- the master does a word for the note's, or comes to where it goes on
  abbrev pub HasPlace : Note → Type 0
  HasPlace x = (IsDone word image x → ⊥) → IsPlaced word image x

  -- it does one, or may pass the note's word over
  abbrev pub IsAllowed : Note → Type 0
  IsAllowed x = (IsDone word image x → ⊥) → MayPass (claims image) x.pc (need_at image (goes_on word image x)) (instruction word image x)

  -- what a rule asks of a note. The fourth and the seventh ask nothing where the third is broken
  abbrev pub NoteKeeps : (rule : ℕ) → Note → Type 0
  NoteKeeps (suc (suc (suc zero))) x = HasPlace x
  NoteKeeps (suc (suc (suc (suc zero)))) x = HasPlace x → IsAllowed x
  NoteKeeps (suc (suc (suc (suc (suc zero))))) x = IsAimed (claims image) x.pc (instruction word image x)
  NoteKeeps (suc (suc (suc (suc (suc (suc zero)))))) x = LiveFits word image x
  NoteKeeps (suc (suc (suc (suc (suc (suc (suc zero))))))) x = HasPlace x → NeedFits word image x
  NoteKeeps _ x = Unit {0}

  -- what a rule asks at a pc: the first, which speaks of no pc, at 0; the second of the anchor there; the others of the note there
  abbrev pub Keeps : (rule pc : ℕ) → Type 0
  Keeps zero pc = Unit {0}
  Keeps (suc zero) pc = pc ≡ 0 → AreListed image
  Keeps (suc (suc zero)) pc = (k : ℕ) (a : Anchor) → slice_get image.anchors k ≡ Some a → a.pc ≡ pc → IsForked image k a
  Keeps (suc (suc (suc more))) pc = (k : ℕ) (x : Note) → slice_get image.notes k ≡ Some x → x.pc ≡ pc → NoteKeeps (suc (suc (suc more))) x

  -- a rule is broken at a pc, none of a lesser number there, and none at a lesser pc
  pub record IsFirst (pc rule : ℕ) : Type 0 where
    pub broken : Keeps rule pc → ⊥
    pub least : (r : ℕ) → r < rule → Keeps r pc
    pub before : (q r : ℕ) → q < pc → Keeps r q

  abbrev pub IsAnswer : Fit → Type 0
  IsAnswer Yes = Fits word image
  IsAnswer (No pc rule) = IsFirst pc rule

-- no rule is broken exactly where the image fits
pub record AreRules (word : ℕ → ℕ) (image : Distilled) : Type 0 where
  pub fits : ((rule pc : ℕ) → Keeps word image rule pc) → Fits word image
  pub keeps : Fits word image → (rule pc : ℕ) → Keeps word image rule pc

-- an image that keeps each rule fits its program, and one that fits keeps each
abbrev pub RulesAreFitting : Type 0
RulesAreFitting = (word : ℕ → ℕ) (image : Distilled) → AreRules word image

-- of one program and image there is one answer
abbrev pub AnswersAreOne : Type 0
AnswersAreOne = (word : ℕ → ℕ) (image : Distilled) (a b : Fit) → IsAnswer word image a → IsAnswer word image b → a ≡ b
