-- When an image fits a program, and when a run meets what the image assumes.
use Rattle.std.specs.Prelude.{◌≡◌, ℕ, ◌+◌, ◌<◌, ◌≤◌, zero, suc, Bool, true, false, cond, Some, ◌⊎◌}
use Rattle.cells.specs.declared.Cell.{Cell}
use Rattle.cells.specs.declared.Cell.TheVariants.{Reg, Byte}
use Rattle.cells.specs.Cells.{Arch}
use Rattle.cells.specs.Machine.{Machine}
use Rattle.cells.specs.Run.{State, is_over, count_after}
use Rattle.speculation.specs.World.{World, IsWorld, Master, seq, is_anchor}
use Rattle.squash_laws.specs.Image.{Image, Words, IsWords, Exec, Go, Fork, body, begin_at, drive_of}

-- in a state one machine does what another does, and reads no cell that the other doesn't read
pub record DoesSame (a b : Machine) (s : Arch) : Type 0 where
  pub stops : a.stops s ≡ b.stops s
  pub move : a.move s ≡ b.move s
  pub reads : (x : Cell) → a.reads s x ≡ true → b.reads s x ≡ true
  pub writes : (x : Cell) → a.writes s x ≡ b.writes s x

-- a note whose own slot does its word, or a word that does the same where the step loads what the list says
pub record IsKept (w : World) (ws : Words) (im : Image) (p : ℕ) : Type 0 where
  pub word : ℕ
  pub slot : im.slots (body w im p) ≡ Some (Exec p word)
  pub does : (s : Arch) → s.pc ≡ p → ws.word s ≡ ws.program p → im.holds s ≡ true → DoesSame (ws.exec word) (ws.exec (ws.program p)) s
  pub reads : (s : Arch) (r : ℕ) → s.pc ≡ p → ws.word s ≡ ws.program p → (ws.exec word).reads s (Reg r) ≡ true → im.need p r ≡ true
  pub next : (q r : ℕ) → im.leads p q ≡ true → im.has q ≡ true → im.need q r ≡ true → (ws.writes p (ws.program p) r ≡ true) ⊎ (im.need p r ≡ true)

-- a note that the master passes over, to go on at `on`
pub record IsPassed (w : World) (ws : Words) (im : Image) (p : ℕ) : Type 0 where
  pub on : ℕ
  pub place : (im.slots (body w im p) ≡ Some (Go on)) ⊎ ((im.has on ≡ true) × (im.slot_of on ≡ body w im p))
  pub only : (q : ℕ) → im.leads p q ≡ true → q ≡ on
  pub need : (r : ℕ) → im.has on ≡ true → im.need on r ≡ true → (im.need p r ≡ true) × (ws.writes p (ws.program p) r ≡ false)
  pub goes_on : (s : Arch) → s.pc ≡ p → (ws.exec (ws.program p)).stops s ≡ false
  pub bytes : (s : Arch) (a : ℕ) → s.pc ≡ p → ws.word s ≡ ws.program p → (ws.exec (ws.program p)).writes s (Byte a) ≡ true → im.dead s ≡ true

-- an image fits the words of a machine
pub record Fits (w : World) (ws : Words) (im : Image) : Type 0 where
  pub anchor_note : (p : ℕ) → is_anchor w p ≡ true → im.has p ≡ true
  pub anchor_slot : (p : ℕ) → is_anchor w p ≡ true → im.slots (im.slot_of p) ≡ Some (Fork p)
  pub anchor_need : (p r : ℕ) → is_anchor w p ≡ true → im.live p r ≡ true → im.need p r ≡ true
  pub each : (p : ℕ) → im.has p ≡ true → IsKept w ws im p ⊎ IsPassed w ws im p
  pub live_reads : (p r : ℕ) → im.has p ≡ true → ws.reads p (ws.program p) r ≡ true → im.live p r ≡ true
  pub live_next : (p q r : ℕ) → im.has p ≡ true → im.leads p q ≡ true → im.has q ≡ true → im.live q r ≡ true → (ws.writes p (ws.program p) r ≡ true) ⊎ (im.live p r ≡ true)

-- the world with its words and image; `puts` are the cells that a position's step writes, a call's too; the first `reach`
-- steps of the run meet the list
pub record Setting : Type 0 where
  pub world : World
  pub words : Words
  pub image : Image
  pub puts : State → Cell → Bool
  pub reach : ℕ

-- the run's registers, pc and memory at position k
abbrev pub arch_at : World → ℕ → Arch
arch_at w k = (seq w k).arch

-- the run's pc at position k
abbrev pub pc_at : World → ℕ → ℕ
pc_at w k = (seq w k).arch.pc

-- a byte whose latest writer is a dead store
abbrev pub stale : Setting → ℕ → ℕ → Bool
stale s zero a = false
stale s (suc k) a = cond (s.puts (seq s.world k) (Byte a)) (s.image.dead (arch_at s.world k)) (stale s k a)

-- how many of the d positions after o are at an anchor's pc
abbrev pub arrived : World → ℕ → ℕ → ℕ
arrived w o d = count_after (λ k. is_anchor w (pc_at w k)) o d

-- `code`: the word is the program's. `within` and `follows`: the next pc has a note, and is one that the list leaves.
-- `fresh`: no byte that is read is stale. `holds`: what is loaded is what the list says. `span`: from an anchor a task comes to its last arrival, or to a call or an end
pub record Meets (s : Setting) : Type 0 where
  pub code : (i : ℕ) → i < s.reach → is_over (seq s.world i) ≡ false → s.image.has (pc_at s.world i) ≡ true
      → s.words.word (arch_at s.world i) ≡ s.words.program (pc_at s.world i)
  pub within : (i : ℕ) → i < s.reach → is_over (seq s.world i) ≡ false → s.image.has (pc_at s.world i) ≡ true
      → s.world.machine.stops (arch_at s.world i) ≡ false → s.image.has (pc_at s.world (suc i)) ≡ true
  pub follows : (i : ℕ) → i < s.reach → is_over (seq s.world i) ≡ false → s.image.has (pc_at s.world i) ≡ true
      → s.world.machine.stops (arch_at s.world i) ≡ false → s.image.leads (pc_at s.world i) (pc_at s.world (suc i)) ≡ true
  pub fresh : (i a : ℕ) → i < s.reach → is_over (seq s.world i) ≡ false → s.world.machine.reads (arch_at s.world i) (Byte a) ≡ true
      → stale s i a ≡ false
  pub holds : (i : ℕ) → i < s.reach → is_over (seq s.world i) ≡ false → s.image.holds (arch_at s.world i) ≡ true
  pub span : (i c : ℕ) → i < s.reach → is_over (seq s.world i) ≡ false → s.world.anchor (pc_at s.world i) ≡ Some c
      → (((t : ℕ) × (t ≤ s.world.limit) × (c ≤ arrived s.world i t)) ⊎ ((t : ℕ) × (t < s.world.limit) × (s.world.machine.stops (arch_at s.world (i + t)) ≡ true)) → ⊥)
      → ⊥

-- the world's master is the image's, the image fits, and the list is met
pub record IsSetting (s : Setting) : Type 0 where
  pub known : IsWorld s.world
  pub words : IsWords s.world.machine s.words
  pub fits : Fits s.world s.words s.image
  pub meets : Meets s
  pub drive : (room : Bool) (a : Master) → s.world.drive room a ≡ drive_of s.world s.words s.image room a
  pub begin : (a : Arch) → is_anchor s.world a.pc ≡ true → s.world.begin a ≡ begin_at s.world s.image a
  pub puts : (x : State) (c : Cell) → s.world.machine.stops x.arch ≡ false → s.puts x c ≡ s.world.machine.writes x.arch c
