-- Worked rows: events over the hand-made images of small programs, and what they answer; what tasks record and print.
use Rattle.std.specs.Prelude.{◌≡◌, ℕ, Bool, true, false, cond, nat_eq, List, [], ◌∷◌, map}
use Rattle.cells.specs.declared.Cell.{Cell}
use Rattle.cells.specs.declared.Cell.TheVariants.{Reg, Byte}
use Rattle.cells.specs.declared.End.TheVariants.{Exit}
use Rattle.cells.specs.Run.{State}
use Rattle.cells.specs.Task.{said, recorded}
use Rattle.rv_semantics.specs.Start.{Loaded, start}
use Rattle.rv_semantics.specs.Programs.{frame, exit_7, hello, ten_turns}
use Rattle.speculation.specs.declared.Why.TheVariants as why
use Rattle.speculation.specs.declared.Ending.TheVariants.{Reached, Met}
use Rattle.speculation.specs.declared.Effect.{Effect}
use Rattle.speculation.specs.declared.Effect.TheVariants.{Moved, Forked, Stalled, Halted, Stepped, Done, Ended, Started, Idle}
use Rattle.speculation.specs.declared.Event.{Event}
use Rattle.speculation.specs.declared.Event.TheVariants.{Master as MasterEvent, Slave, Serial as SerialEvent, Restart}
use Rattle.speculation.specs.World.{World}
use Rattle.speculation.specs.Engine.{effects, fresh}
use Rattle.dist_image.specs.declared.image.Slot.TheVariants.{Exec, Go, Fork}
use Rattle.dist_image.specs.declared.image.Anchor.{Anchor}
use Rattle.dist_image.specs.declared.image.Note.{Note}
use Rattle.dist_image.specs.Image.{Distilled}
use Rattle.image_semantics.specs.World.{task_machine, world}

-- an anchor, by pc, slot and count
abbrev pub anchor : ℕ → ℕ → ℕ → Anchor
anchor pc slot count = record { pc = pc; slot = slot; count = count }

-- a note, by pc and slot
abbrev pub note : ℕ → ℕ → Note
note pc slot = record { pc = pc; slot = slot; live = 0; need = 0 }

-- for the program of ten turns: each turn is two instructions, and a task has two
abbrev pub turns_image : Distilled
turns_image = record {
  version = 1;
  limit = 64;
  slots =
      Exec 0x00010000 0x00a00293 ∷ Fork 0 ∷ Exec 0x00010004 0xfff28293 ∷ Exec 0x00010008 0xfe029ee3
      ∷ Exec 0x0001000c 0x00000513 ∷ Exec 0x00010010 0x05d00893 ∷ Exec 0x00010014 0x00000073 ∷ [];
  anchors = anchor 0x00010004 1 2 ∷ [];
  notes = note 0x00010000 0 ∷ note 0x00010004 1 ∷ note 0x00010008 3 ∷ note 0x0001000c 4 ∷ note 0x00010010 5 ∷ note 0x00010014 6 ∷ [];
  assumptions = [];
  writes = [];
}

-- for the program that exits with 7: a task begins at the call
abbrev pub call_image : Distilled
call_image = record {
  version = 1;
  limit = 16;
  slots = Fork 0 ∷ Exec 0x00010008 0x00000073 ∷ [];
  anchors = anchor 0x00010008 0 1 ∷ [];
  notes = note 0x00010008 0 ∷ [];
  assumptions = [];
  writes = [];
}

-- an image whose Fork stands at a pc that its master never leaves: the slot behind it goes back to it
abbrev pub circle_image : Distilled
circle_image = record {
  version = 1;
  limit = 16;
  slots = Fork 0 ∷ Go 0x00010004 ∷ [];
  anchors = anchor 0x00010004 0 1 ∷ [];
  notes = note 0x00010004 0 ∷ [];
  assumptions = [];
  writes = [];
}

-- and one whose master comes to no note
abbrev pub astray_image : Distilled
astray_image = record circle_image { slots = Fork 0 ∷ Go 0x00010008 ∷ [] }

-- for the program that prints: the whole of it is one task
abbrev pub hello_image : Distilled
hello_image = record {
  version = 2;
  limit = 16;
  slots = Fork 0 ∷ Exec 0x00010014 0x00000073 ∷ [];
  anchors = anchor 0x00010000 0 1 ∷ [];
  notes = note 0x00010000 0 ∷ [];
  assumptions = [];
  writes = 0x00010014 ∷ [];
}

-- what is told of a list of events
abbrev pub told : World → List Event → List Effect
told w es = effects w es (fresh w)

-- the world of ten turns of a loop
abbrev pub turns : Distilled → ℕ → World
turns image slaves = world (start ten_turns []) image slaves

-- a task that reaches its end, while the master goes on
abbrev pub TurnsReach : Type 0
TurnsReach =
    told (turns turns_image 4) (Restart ∷ SerialEvent ∷ Restart ∷ Slave 0 ∷ Slave 0 ∷ Slave 0 ∷ Slave 0 ∷ MasterEvent ∷ MasterEvent ∷ MasterEvent ∷ MasterEvent ∷ MasterEvent ∷ MasterEvent ∷ [])
    ≡ (Idle ∷ Stepped ∷ Started 0x00010004 ∷ Stepped ∷ Stepped ∷ Stepped ∷ Done Reached ∷ Moved ∷ Moved ∷ Moved ∷ Moved ∷ Moved ∷ Forked 1 ∷ [])

-- a task that meets a call, and a master that halts there
abbrev pub CallsAreMet : Type 0
CallsAreMet =
    told (world (start exit_7 []) call_image 4) (SerialEvent ∷ SerialEvent ∷ Restart ∷ Slave 0 ∷ MasterEvent ∷ MasterEvent ∷ Slave 1 ∷ [])
    ≡ (Stepped ∷ Stepped ∷ Started 0x00010008 ∷ Done Met ∷ Halted why.Call ∷ Idle ∷ Idle ∷ [])

-- a run that ends, and events behind its end
abbrev pub RunsEnd : Type 0
RunsEnd =
    told (world (start exit_7 []) call_image 4) (SerialEvent ∷ SerialEvent ∷ SerialEvent ∷ SerialEvent ∷ Restart ∷ [])
    ≡ (Stepped ∷ Stepped ∷ Ended (Exit 7) ∷ Idle ∷ Idle ∷ [])

-- a master that forks by turns, and stalls where no slave is free
abbrev pub CirclesFork : Type 0
CirclesFork =
    told (turns circle_image 2) (SerialEvent ∷ Restart ∷ MasterEvent ∷ MasterEvent ∷ MasterEvent ∷ MasterEvent ∷ SerialEvent ∷ [])
    ≡ (Stepped ∷ Started 0x00010004 ∷ Moved ∷ Forked 1 ∷ Moved ∷ Stalled ∷ Idle ∷ [])

-- a master that leaves its slots
abbrev pub StraysAreLost : Type 0
StraysAreLost =
    told (turns astray_image 2) (SerialEvent ∷ Restart ∷ MasterEvent ∷ MasterEvent ∷ [])
    ≡ (Stepped ∷ Started 0x00010004 ∷ Halted why.Lost ∷ Idle ∷ [])

-- the task prints, and is met by the exit
abbrev pub TasksPrint : Type 0
TasksPrint =
    told (world (start hello []) hello_image 4) (Restart ∷ Slave 0 ∷ Slave 0 ∷ Slave 0 ∷ Slave 0 ∷ Slave 0 ∷ Slave 0 ∷ Slave 0 ∷ Slave 0 ∷ Slave 0 ∷ [])
    ≡ (Started 0x00010000 ∷ Stepped ∷ Stepped ∷ Stepped ∷ Stepped ∷ Stepped ∷ Stepped ∷ Stepped ∷ Stepped ∷ Done Met ∷ [])

-- what its eight steps print
abbrev pub HelloIsSaid : Type 0
HelloIsSaid = said (world (start hello []) hello_image 4).machine (start hello []).arch 8 ≡ (0x68 ∷ 0x69 ∷ 0x0a ∷ [])

-- at the call that writes so many bytes from there on, and an image with an anchor at it
abbrev pub calling : ℕ → ℕ → State
calling from count =
    let s = start hello [] in
    record s { arch = record s.arch { pc = 0x00010014; regs = λ r. cond (nat_eq r 10) 1 (cond (nat_eq r 11) from (cond (nat_eq r 12) count 64)) } }

-- an image of a greeting whose call is an anchor
abbrev pub calling_image : Distilled
calling_image = record hello_image { anchors = anchor 0x00010014 0 1 ∷ []; notes = note 0x00010014 0 ∷ [] }

-- the master goes on behind a short write at a listed pc, here to where no note is, and halts at every other call
pub record MasterRows : Type 0 where
  pub short : told (world (calling 0x00010024 256) calling_image 1) (Restart ∷ MasterEvent ∷ []) ≡ (Started 0x00010014 ∷ Halted why.Lost ∷ [])
  pub long : told (world (calling 0x00010024 257) calling_image 1) (Restart ∷ MasterEvent ∷ []) ≡ (Started 0x00010014 ∷ Halted why.Call ∷ [])
  pub unlisted : told (world (calling 0x00010024 256) (record calling_image { writes = [] }) 1) (Restart ∷ MasterEvent ∷ []) ≡ (Started 0x00010014 ∷ Halted why.Call ∷ [])

-- what a task records that has looked at the call
abbrev pub recorded_at : Distilled → ℕ → ℕ → Cell → Bool
recorded_at image from count x = recorded (task_machine image) (calling from count).arch 1 x

-- a store of a byte at 0x00010040, and a call that shows it
abbrev pub showing_own : Loaded
showing_own = frame (0x00000597 ∷ 0x04058593 ∷ 0x00058023 ∷ 0x00100613 ∷ 0x00100513 ∷ 0x04000893 ∷ 0x00000073 ∷ [])

-- the bytes that are shown are read, the last behind the greatest address too, and the four registers that say what is shown,
-- where a task might do the call
pub record RecordRows : Type 0 where
  pub first : recorded_at calling_image 0x00010024 3 (Byte 0x00010024) ≡ true
  pub last : recorded_at calling_image 0x00010024 3 (Byte 0x00010026) ≡ true
  pub behind : recorded_at calling_image 0x00010024 3 (Byte 0x00010027) ≡ false
  pub around : recorded_at calling_image 0xffffffff 2 (Byte 0) ≡ true
  pub registers : map (λ r. recorded_at calling_image 0x00010024 3 (Reg r)) (10 ∷ 11 ∷ 12 ∷ 13 ∷ 17 ∷ []) ≡ (true ∷ true ∷ true ∷ false ∷ true ∷ [])
  -- of a call that is too long the registers alone, and of one that no task does nothing
  pub long_byte : recorded_at calling_image 0x00010024 257 (Byte 0x00010024) ≡ false
  pub long_register : recorded_at calling_image 0x00010024 257 (Reg 11) ≡ true
  pub unlisted : recorded_at (record calling_image { writes = [] }) 0x00010024 3 (Reg 11) ≡ false
  -- the task itself has put the byte
  pub own : recorded (task_machine (record calling_image { writes = 0x00010018 ∷ [] })) (start showing_own []).arch 7 (Byte 0x00010040) ≡ false
