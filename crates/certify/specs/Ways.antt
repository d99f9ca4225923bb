-- In which way the distilled program does a note's word, and which registers are in the masks where that leads.
use Rattle.std.specs.Prelude.{◌≡◌, ℕ, true, cond, nat_eq, List, ◌++◌, Option, Some, None}
use Rattle.std.specs.List.{list_any}
use Rattle.rv_word.specs.declared.inst.Inst.{Inst}
use Rattle.rv_word.specs.Masks.{in_mask}
use Rattle.dist_image.specs.declared.image.Slot.{Slot}
use Rattle.dist_image.specs.declared.image.Slot.TheVariants.{Exec}
use Rattle.dist_image.specs.declared.image.Note.{Note}
use Rattle.dist_image.specs.Image.{Distilled}
use Rattle.fitting.specs.Claims.{claims, goes_on_at, same_at}
use Rattle.fitting.specs.Fits.{is_anchor_pc, set_word, MayPass, IsKept, IsSet, IsDone, IsPlaced, IsWithin, IsWithinBut, live_at, need_at}
use Rattle.certify.specs.declared.masks.Masks.{Masks}
use Rattle.certify.specs.declared.way.Way.{Way}
use Rattle.certify.specs.declared.way.Way.TheVariants as way

-- the word that a slot does at this pc
abbrev pub word_done : ℕ → Option Slot → Option ℕ
word_done pc (Some (Exec origin word)) = cond (nat_eq origin pc) (Some word) None
word_done pc _ = None

-- the note's own word is done, or one that sets its register; or it is passed over; or the master comes to another place
abbrev pub IsWay : (ℕ → ℕ) → Distilled → Note → Way → Type 0
IsWay word image x way.Kept = IsKept word image x
IsWay word image x way.Set = (IsKept word image x → ⊥) × IsSet word image x
IsWay word image x way.Passed = (IsDone word image x → ⊥) × IsPlaced word image x
IsWay word image x way.Lost = (IsDone word image x → ⊥) × (IsPlaced word image x → ⊥)

-- the mask has the registers that are in the mask of one of these places
abbrev pub IsJoined : (ℕ → ℕ) → List ℕ → ℕ → Type 0
IsJoined mask_at places mask = (r : ℕ) → in_mask mask r ≡ list_any (λ q. in_mask (mask_at q) r) places

-- these are live and needed at one of these places
pub record AreMasks (image : Distilled) (places : List ℕ) (m : Masks) : Type 0 where
  pub live : IsJoined (live_at image) places m.live
  pub need : IsJoined (need_at image) places m.need

-- where two masks are those at some places each, a third one is that at all of them
abbrev pub AreMasksOfBoth : Masks → Masks → Masks → Type 0
AreMasksOfBoth a b both =
    (image : Distilled) (ps qs : List ℕ) → AreMasks image ps a → AreMasks image qs b → AreMasks image (ps ++ qs) both

-- the word that is done is the one that sets the register of the load at a pc to its one value
abbrev pub IsSetBy : Distilled → ℕ → Inst → Option ℕ → Type 0
IsSetBy image pc i done = (word : ℕ) × (set_word (same_at image pc) i ≡ Some word) × (done ≡ Some word)

-- at an anchor's pc, a note needs what is live
abbrev pub IsAnchored : Distilled → Note → Type 0
IsAnchored image x = is_anchor_pc image x.pc ≡ true → IsWithin x.live x.need

-- where an instruction is passed over, it may be
abbrev pub IsAllowedIn : Way → Distilled → ℕ → Inst → Type 0
IsAllowedIn way.Passed image pc i = MayPass (claims image) pc (need_at image (goes_on_at (claims image) pc i)) i
IsAllowedIn _ image pc i = Unit {0}

-- what a note has to need: what is needed behind it, and what is read by a word of its own
abbrev pub IsNeeded : Way → (reads writes behind need : ℕ) → Type 0
IsNeeded way.Kept reads writes behind need = IsWithin reads need × IsWithinBut writes behind need
IsNeeded way.Set reads writes behind need = IsWithinBut writes behind need
IsNeeded _ reads writes behind need = IsWithin behind need
