-- A small machine, its program and an image of it: they meet all that the laws ask for.
use Rattle.std.specs.Prelude.{ℕ, ◌+◌, ◌||◌, ◌&&◌, Bool, true, false, cond, List, [], ◌∷◌, Some, None, nat_eq, slice_get}
use Rattle.cells.specs.declared.Cell.{Cell}
use Rattle.cells.specs.declared.Cell.TheVariants.{Pc, Reg, Byte}
use Rattle.cells.specs.declared.End.TheVariants.{Exit}
use Rattle.cells.specs.Cells.{Arch, same_cell}
use Rattle.cells.specs.Machine.{Machine}
use Rattle.cells.specs.Run.{State, step_by}
use Rattle.speculation.specs.declared.Why.TheVariants.{Call}
use Rattle.speculation.specs.World.{World, Stays}
use Rattle.squash_laws.specs.Image.{Exec, Fork, Image, Words, begin_at, drive_of}
use Rattle.squash_laws.specs.Fits.{Setting}

-- register 1 rises by one; it is stored at byte 100 and printed; back to 0, and on at 12 once it is what byte 96 holds; the
-- same once it is 3; a call. Each reads it
pub data Op : Type 0 where
  Count Show Again Known Leave : Op

-- the word at a pc is the pc itself. Known stands at none: the image has it in the place of Again
abbrev pub op_of : ℕ → Op
op_of word = cond (nat_eq word 0) Count (cond (nat_eq word 4) Show (cond (nat_eq word 8) Again (cond (nat_eq word 16) Known Leave)))

-- whether an operation ends a task
abbrev pub leaves : Op → Bool
leaves Leave = true
leaves _ = false

-- the state behind an operation
abbrev pub after : Op → Arch → Arch
after Count s = record { pc = s.pc + 4; regs = λ r. cond (nat_eq 1 r) (s.regs 1 + 1) (s.regs r); mem = s.mem }
after Show s = record { pc = s.pc + 4; regs = s.regs; mem = λ a. cond (nat_eq 100 a) (s.regs 1) (s.mem a) }
after Again s = record { pc = cond (nat_eq (s.regs 1) (s.mem 96)) 12 0; regs = s.regs; mem = s.mem }
after Known s = record { pc = cond (nat_eq (s.regs 1) 3) 12 0; regs = s.regs; mem = s.mem }
after Leave s = s

-- what an operation shows
abbrev pub shown : Op → Arch → List ℕ
shown Show s = s.regs 1 ∷ []
shown _ s = []

-- whether an operation loads the byte at 96
abbrev pub loads : Op → Bool
loads Again = true
loads _ = false

-- which cells an operation reads
abbrev pub looks : Op → Cell → Bool
looks op Pc = false
looks op (Reg r) = nat_eq 1 r
looks op (Byte a) = loads op && nat_eq 96 a

-- which cells an operation writes
abbrev pub sets : Op → Cell → Bool
sets Count x = same_cell (Reg 1) x
sets Show x = same_cell (Byte 100) x
sets _ x = false

-- the machine that does one operation
abbrev pub doing : Op → Machine
doing op = record { stops = λ s. leaves op; move = λ s. after op s; says = λ s. shown op s; reads = λ s x. looks op x; writes = λ s x. sets op x }

-- the machine: it does the operation at its pc
abbrev pub speculation_example : Machine
speculation_example =
    record {
      stops = λ s. leaves (op_of s.pc);
      move = λ s. after (op_of s.pc) s;
      says = λ s. shown (op_of s.pc) s;
      reads = λ s x. looks (op_of s.pc) x;
      writes = λ s x. sets (op_of s.pc) x;
    }

-- the call ends the run with register 1
abbrev pub leave : State → State
leave s = record s { env = record s.env { over = Some (Exit (s.arch.regs 1)) } }

-- where it begins
abbrev pub small_start : State
small_start =
    record {
      arch = record { pc = 0; regs = λ r. 0; mem = λ a. cond (nat_eq 96 a) 3 0 };
      env = record { input = []; taken = 0; output = []; first_break = 0; brk = 0; over = None };
    }

-- Count is done in a slot of its own after the Fork, Show is passed over, Known is done in the place of Again, and Leave is
-- done. The list says that Again loads 3
abbrev pub small_image : Image
small_image =
    record {
      slots = slice_get (Fork 0 ∷ Exec 0 0 ∷ Exec 8 16 ∷ Exec 12 12 ∷ []);
      has = λ pc. nat_eq pc 0 || nat_eq pc 4 || nat_eq pc 8 || nat_eq pc 12;
      slot_of = λ pc. cond (nat_eq pc 0) 0 (cond (nat_eq pc 12) 3 2);
      live = λ pc r. nat_eq 1 r;
      need = λ pc r. nat_eq 1 r;
      leads = λ p q. cond (nat_eq p 0) (nat_eq q 4) (cond (nat_eq p 4) (nat_eq q 8) (cond (nat_eq p 8) (nat_eq q 0 || nat_eq q 12) false));
      dead = λ s. nat_eq s.pc 4;
      holds = λ s. cond (nat_eq s.pc 8) (nat_eq (s.mem 96) 3) true;
    }

-- its words, as the laws of the master see them
abbrev pub small_words : Words
small_words =
    record {
      word = λ s. s.pc;
      program = λ pc. pc;
      exec = λ word. doing (op_of word);
      why = λ word s. Call;
      reads = λ pc word r. looks (op_of word) (Reg r);
      writes = λ pc word r. sets (op_of word) (Reg r);
    }

-- with a limit on the steps of a task, from a start; the anchor at 0 is passed once a task
abbrev pub masterless : ℕ → State → World
masterless limit start =
    record {
      machine = speculation_example;
      step = step_by speculation_example leave;
      anchor = λ pc. cond (nat_eq pc 0) (Some 1) None;
      limit = limit;
      slaves = 2;
      begin = λ a. record { slot = 0; arch = a; left = 0; spent = 0 };
      drive = λ room a. Stays;
      start = start;
    }

-- its world, with a limit for tasks
abbrev pub small_world : ℕ → State → World
small_world limit start =
    record (masterless limit start) {
      begin = begin_at (masterless limit start) small_image;
      drive = drive_of (masterless limit start) small_words small_image;
    }

-- ten steps end the run
abbrev pub small_setting : Setting
small_setting =
    record {
      world = small_world 8 small_start;
      words = small_words;
      image = small_image;
      puts = λ s x. speculation_example.writes s.arch x;
      reach = 10;
    }
