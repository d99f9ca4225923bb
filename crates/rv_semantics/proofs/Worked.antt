-- The definitions, run on small programs.
use Rattle.std.proofs.Common.{◌≡◌, ℕ, [], ◌∷◌, Some, None, refl}
use Rattle.cells.specs.declared.End.TheVariants.{Exit, Break, Illegal, Misfetch}
use Rattle.rv_semantics.specs.Start.{Loaded, run}
use Rattle.rv_semantics.specs.Programs.{frame, exit_7, hello, wrap, misfetch, read_twice}

pub exits_7 : (run exit_7 [] 3).env.over ≡ Some (Exit 7)
unfolding Rattle.rv_semantics.specs.Calls.call Rattle.rv_semantics.specs.Machine.moved Rattle.cells.specs.Seen.given_values
exits_7 = refl

pub goes_on_before : (run exit_7 [] 2).env.over ≡ None
unfolding Rattle.rv_semantics.specs.Calls.call Rattle.rv_semantics.specs.Machine.moved Rattle.cells.specs.Seen.given_values
goes_on_before = refl

pub says_hi : (run hello [] 9).env.output ≡ (0x68 ∷ 0x69 ∷ 0x0a ∷ [])
unfolding Rattle.rv_semantics.specs.Calls.call Rattle.rv_semantics.specs.Calls.write Rattle.rv_semantics.specs.Machine.moved Rattle.cells.specs.Seen.given_values
says_hi = refl

-- the word stored at 0xFFFFFFFE wraps
pub wraps : (run wrap [] 7).env.over ≡ Some (Exit 2)
unfolding Rattle.rv_semantics.specs.Calls.call Rattle.rv_semantics.specs.Machine.moved Rattle.cells.specs.Seen.given_values
wraps = refl

-- and the link register is not written
pub misses : (run misfetch [] 3).env.over ≡ Some (Misfetch 0x00010002)
unfolding Rattle.rv_semantics.specs.Calls.call Rattle.rv_semantics.specs.Machine.moved Rattle.cells.specs.Seen.given_values
misses = refl

pub no_link : (run misfetch [] 3).arch.regs 1 ≡ 0
unfolding Rattle.rv_semantics.specs.Calls.call Rattle.rv_semantics.specs.Machine.moved Rattle.cells.specs.Seen.given_values
no_link = refl

pub reads_3 : (run read_twice (97 ∷ 98 ∷ 99 ∷ []) 12).env.over ≡ Some (Exit 48)
unfolding Rattle.rv_semantics.specs.Calls.call Rattle.rv_semantics.specs.Calls.read Rattle.rv_semantics.specs.Machine.moved Rattle.cells.specs.Seen.given_values
reads_3 = refl

-- the first word sets x10, the second x17, and the third is ECALL
abbrev calling : ℕ → ℕ → Loaded
calling argument number = frame (argument ∷ number ∷ 0x00000073 ∷ [])

-- an ended state is its own step
pub stays_ended : (run exit_7 [] 5).env.over ≡ Some (Exit 7)
unfolding Rattle.rv_semantics.specs.Calls.call Rattle.rv_semantics.specs.Machine.moved Rattle.cells.specs.Seen.given_values
stays_ended = refl

-- an end leaves the pc
pub stays_at_its_end : (run exit_7 [] 3).arch.pc ≡ 0x00010008
unfolding Rattle.rv_semantics.specs.Calls.call Rattle.rv_semantics.specs.Machine.moved Rattle.cells.specs.Seen.given_values
stays_at_its_end = refl

-- call 94 ends the run too
pub exits_by_94 : (run (calling 0x00700513 0x05E00893) [] 3).env.over ≡ Some (Exit 7)
unfolding Rattle.rv_semantics.specs.Calls.call Rattle.rv_semantics.specs.Machine.moved Rattle.cells.specs.Seen.given_values
exits_by_94 = refl

-- a write to descriptor 3, and a read from descriptor 1: the answer is -9
pub writes_to_3 : (run (calling 0x00300513 0x04000893) [] 3).arch.regs 10 ≡ 0xFFFFFFF7
unfolding Rattle.rv_semantics.specs.Calls.call Rattle.rv_semantics.specs.Calls.write Rattle.rv_semantics.specs.Machine.moved Rattle.cells.specs.Seen.given_values
writes_to_3 = refl

pub reads_from_1 : (run (calling 0x00100513 0x03F00893) (97 ∷ []) 3).arch.regs 10 ≡ 0xFFFFFFF7
unfolding Rattle.rv_semantics.specs.Calls.call Rattle.rv_semantics.specs.Calls.read Rattle.rv_semantics.specs.Machine.moved Rattle.cells.specs.Seen.given_values
reads_from_1 = refl

-- call 1000: the answer is -38, and the run goes on behind the call
pub calls_1000 : (run (calling 0x00700513 0x3E800893) [] 3).arch.regs 10 ≡ 0xFFFFFFDA
unfolding Rattle.rv_semantics.specs.Calls.call Rattle.rv_semantics.specs.Machine.moved Rattle.cells.specs.Seen.given_values
calls_1000 = refl

pub goes_on_behind : (run (calling 0x00700513 0x3E800893) [] 3).arch.pc ≡ 0x0001000C
unfolding Rattle.rv_semantics.specs.Calls.call Rattle.rv_semantics.specs.Machine.moved Rattle.cells.specs.Seen.given_values
goes_on_behind = refl

-- the first break is 0x00011000. A break below it is refused, one at it and one at 0x70000000 are taken, and one above that is refused
pub break_below : (run (calling 0x00010537 0x0D600893) [] 3).arch.regs 10 ≡ 0x00011000
unfolding Rattle.rv_semantics.specs.Calls.call Rattle.rv_semantics.specs.Calls.brk Rattle.rv_semantics.specs.Machine.moved Rattle.cells.specs.Seen.given_values
break_below = refl

pub break_lowest : (run (calling 0x00011537 0x0D600893) [] 3).env.brk ≡ 0x00011000
unfolding Rattle.rv_semantics.specs.Calls.call Rattle.rv_semantics.specs.Calls.brk Rattle.rv_semantics.specs.Machine.moved Rattle.cells.specs.Seen.given_values
break_lowest = refl

pub break_highest : (run (calling 0x70000537 0x0D600893) [] 3).env.brk ≡ 0x70000000
unfolding Rattle.rv_semantics.specs.Calls.call Rattle.rv_semantics.specs.Calls.brk Rattle.rv_semantics.specs.Machine.moved Rattle.cells.specs.Seen.given_values
break_highest = refl

pub break_answered : (run (calling 0x70000537 0x0D600893) [] 3).arch.regs 10 ≡ 0x70000000
unfolding Rattle.rv_semantics.specs.Calls.call Rattle.rv_semantics.specs.Calls.brk Rattle.rv_semantics.specs.Machine.moved Rattle.cells.specs.Seen.given_values
break_answered = refl

pub break_above : (run (frame (0x70000537 ∷ 0x00150513 ∷ 0x0D600893 ∷ 0x00000073 ∷ [])) [] 4).env.brk ≡ 0x00011000
unfolding Rattle.rv_semantics.specs.Calls.call Rattle.rv_semantics.specs.Calls.brk Rattle.rv_semantics.specs.Machine.moved Rattle.cells.specs.Seen.given_values
break_above = refl

-- EBREAK, and a word without a meaning
pub breaks : (run (frame (0x00100073 ∷ [])) [] 1).env.over ≡ Some Break
unfolding Rattle.rv_semantics.specs.Calls.call Rattle.rv_semantics.specs.Machine.moved Rattle.cells.specs.Seen.given_values
breaks = refl

pub meets_no_instruction : (run (frame (0xFFFFFFFF ∷ [])) [] 1).env.over ≡ Some (Illegal 0xFFFFFFFF)
unfolding Rattle.rv_semantics.specs.Calls.call Rattle.rv_semantics.specs.Machine.moved Rattle.cells.specs.Seen.given_values
meets_no_instruction = refl
