-- The real machine and an image as the laws against squashes see them: words, slots and notes by number and by pc.
use Rattle.std.specs.Prelude.{ℕ, Bool, true, ◌&&◌, slice_get, Option, Some, None}
use Rattle.std.specs.Option.{unwrap_or}
use Rattle.cells.specs.Cells.{Arch, value}
use Rattle.cells.specs.Run.{State}
use Rattle.squash_laws.specs.Image.{Slot, Image, Words, Exec as DoWord, Go as GoTo, Fork as ForkAt}
use Rattle.squash_laws.specs.Fits.{Setting}
use Rattle.rv_word.specs.Meaning.{meaning}
use Rattle.rv_word.specs.declared.inst.Inst.{Inst}
use Rattle.rv_word.specs.Masks.{in_mask}
use Rattle.rv_semantics.specs.Effect.{effect_at, is_store}
use Rattle.rv_semantics.specs.Prints.{task_reads, task_writes}
use Rattle.rv_semantics.specs.Machine.{exec_in, word_at}
use Rattle.rv_semantics.specs.Calls.{writes}
use Rattle.dist_image.specs.declared.image.Slot.TheVariants.{Exec, Go, Fork}
use Rattle.dist_image.specs.declared.image.Slot.{Slot as ImageSlot}
use Rattle.dist_image.specs.declared.image.Anchor.{Anchor}
use Rattle.dist_image.specs.Image.{Distilled, slot_of, prints_at}
use Rattle.image_semantics.specs.World.{world, why_of}
use Rattle.fitting.specs.Claims.{among, claims, leads, same_at}
use Rattle.fitting.specs.Fits.{is_analysed, live_at, need_at}
use Rattle.fitting.specs.Fails.{loads_as, program}

-- the words of RV32IM, where a task may print at these pcs, and the program has this word at each pc
abbrev pub words : (ℕ → Bool) → (ℕ → ℕ) → Words
words prints word = record {
  word = word_at;
  program = word;
  exec = exec_in prints;
  why = λ w s. why_of (effect_at (meaning w) s.pc (value s)).flow;
  reads = λ pc w r. in_mask (task_reads prints (meaning w) pc) r;
  writes = λ pc w r. in_mask (task_writes prints (meaning w) pc) r;
}

-- an anchor's pc, and 0 of none
abbrev pub pc_of : Option Anchor → ℕ
pc_of None = 0
pc_of (Some a) = a.pc

-- a Fork names its anchor's pc in place of its number
abbrev pub shown : Distilled → Option ImageSlot → Option Slot
shown image None = None
shown image (Some (Exec origin word)) = Some (DoWord origin word)
shown image (Some (Go target)) = Some (GoTo target)
shown image (Some (Fork k)) = Some (ForkAt (pc_of (slice_get image.anchors k)))

-- what is loaded is the one value that is claimed, if there is one
abbrev pub holds_as : Option ℕ → Inst → Arch → Bool
holds_as None i s = true
holds_as (Some n) i s = loads_as n i s

-- an image as the laws of speculation see one, beside the words of its program
abbrev pub view : (ℕ → ℕ) → Distilled → Image
view word image = record {
  slots = λ k. shown image (slice_get image.slots k);
  has = is_analysed image;
  slot_of = λ pc. unwrap_or (slot_of image pc) 0;
  live = λ pc r. in_mask (live_at image pc) r;
  need = λ pc r. in_mask (need_at image pc) r;
  leads = λ pc to. among (leads (claims image) pc (meaning (word pc))) to;
  dead = λ s. (claims image).dead s.pc && is_store (meaning (word_at s));
  holds = λ s. holds_as (same_at image s.pc) (meaning (word_at s)) s;
}

-- the world over a start, an image and a number of slaves, where the first `reach` steps meet the image's list
abbrev pub setting : State → Distilled → ℕ → ℕ → Setting
setting start image slaves reach = record {
  world = world start image slaves;
  words = words (prints_at image) (program start);
  image = view (program start) image;
  puts = writes;
  reach = reach;
}
