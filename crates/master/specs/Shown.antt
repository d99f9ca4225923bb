-- The master of the code as the world has it, and its answers as what an event of the world's master does.
use Rattle.std.specs.Prelude.{◌≡◌, ℕ, ◌+◌, ◌*◌, ◌&&◌, Bool, cond, nat_eq, nat_lt, [], ◌∷◌, slice_get, Option, Some, None, unwrap_or}
use Rattle.std.specs.Option.{option_map}
use Rattle.cells.specs.declared.Cell.TheVariants.{Reg}
use Rattle.cells.specs.Cells.{Arch, value}
use Rattle.speculation.specs.declared.Why.TheVariants as why
use Rattle.speculation.specs.World.{Master, Driven, Goes, Spawns, Stays, Halts}
use Rattle.rv_semantics.specs.Values.{arch_of}
use Rattle.rv_semantics.specs.Effect.{next, after}
use Rattle.rv_semantics.specs.Prints.{is_short_write}
use Rattle.rv_semantics.specs.Machine.{moved}
use Rattle.dist_image.specs.declared.image.Slot.{Slot}
use Rattle.dist_image.specs.declared.image.Slot.TheVariants.{Fork}
use Rattle.dist_image.specs.declared.image.Anchor.{Anchor}
use Rattle.dist_image.specs.Image.{Distilled, slot_of, prints_at}
use Rattle.rv_step.specs.declared.arch.Arch.{Arch as CodeArch}
use Rattle.image_semantics.specs.World.{fork, go_to, exec_at}
use Rattle.master.specs.declared.master.Master.{Master as CodeMaster}
use Rattle.master.specs.declared.master.MasterDid.{MasterDid}
use Rattle.master.specs.declared.master.MasterDid.TheVariants.{Moved, Spawned, Stalled, Halted}

-- the registers, pc and memory of the code as the world has them, where `at` gives the bytes of the code's memory
abbrev pub arch_at : {M : Type 0} → (M → ℕ → ℕ) → CodeArch M → Arch
arch_at at a = arch_of a.pc a.regs (at a.mem)

-- the master of the code as the world has it
abbrev pub shown : {M : Type 0} → (M → ℕ → ℕ) → CodeMaster M → Master
shown at m = record { slot = m.slot; arch = arch_at at m.arch; left = m.left; spent = m.spent }

-- the anchor's number, if the slot is a Fork
abbrev pub forking : Option Slot → Option ℕ
forking (Some (Fork k)) = Some k
forking _ = None

-- the number of the anchor where the next event spawns a task, if it would
unfoldable pub next_spawn : Distilled → Master → Option ℕ
next_spawn image a = cond (nat_lt a.spent (4 * image.limit + 4) && nat_eq a.left 1) (forking (slice_get image.slots a.slot)) None

-- a Fork passes the anchor of a number, or spawns a task there
abbrev pub forked : Distilled → Bool → ℕ → Master → Driven
forked image room k a = fork room a (slice_get image.anchors k)

-- the master goes on at the slot of a pc, if there is one, in the state that it has
abbrev pub gone : Distilled → ℕ → Master → Driven
gone image target a = go_to a a.arch (slot_of image target)

-- the word of a slot is done at its origin
abbrev pub executed : Distilled → ℕ → ℕ → Master → Driven
executed image origin word a = exec_at image a origin word

-- one slot more is done, and this one comes next
abbrev pub moved_to : ℕ → Master → Master
moved_to slot a = record a { slot = slot; spent = a.spent + 1 }

-- whether a call at a pc is one that a task does: tasks print there, and it is a short write
abbrev pub is_answered : Distilled → Master → ℕ → Bool
is_answered image a origin = prints_at image origin && is_short_write (value a.arch)

-- a call of a slot: a short write, where tasks print, answers the number of its bytes; any other halts the master
abbrev pub called : Distilled → Master → ℕ → Driven
called image a origin =
    cond (is_answered image a origin)
    (go_to a (moved (next origin ((Reg 10, a.arch.regs 12) ∷ [])) a.arch) (slot_of image (after origin)))
    (Halts why.Call)

-- the pc of the anchor of a number
abbrev pub anchor_pc : Distilled → ℕ → ℕ
anchor_pc image k = unwrap_or (option_map (λ (x : Anchor). x.pc) (slice_get image.anchors k)) 0

-- an answer, where the master is `a` afterwards
abbrev pub as_driven : Distilled → MasterDid → Master → Driven
as_driven image Moved a = Goes a
as_driven image (Spawned k) a = Spawns (anchor_pc image k) a
as_driven image Stalled a = Stays
as_driven image (Halted why) a = Halts why

-- an answer, with the new master of the code, is what the world's master does from the old one
abbrev pub DoesAs : {M : Type 0} → (M → ℕ → ℕ) → Distilled → (Master → Driven) → CodeMaster M → CodeMaster M → MasterDid → Type 0
DoesAs at image does old new did = as_driven image did (shown at new) ≡ does (shown at old)

-- an answer after which the master is as it was before
abbrev pub Keeps : Master → Master → MasterDid → Type 0
Keeps a b Stalled = b ≡ a
Keeps a b (Halted why) = b ≡ a
Keeps a b _ = Unit {0}

-- an answer that tells a spawn tells the anchor that was due
abbrev pub SpawnsNext : Option ℕ → MasterDid → Type 0
SpawnsNext due (Spawned k) = due ≡ Some k
SpawnsNext due _ = Unit {0}
