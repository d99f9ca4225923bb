-- What calls and ends do to a state, and one step of a run. The numbers of calls are those of Linux for RISC-V; their
-- effects are this project's.
use Rattle.std.specs.Prelude.{◌≡◌, ℕ, ◌+◌, ◌-◌, ◌^◌, min, Bool, false, ◌&&◌, ◌||◌, not, cond, nat_eq, nat_le, ◌==◌, if◌then◌else◌, ◌++◌, length, take, drop, Some}
use Rattle.cells.specs.declared.Cell.{Cell}
use Rattle.cells.specs.declared.Cell.TheVariants.{Pc, Reg, Byte}
use Rattle.cells.specs.declared.End.{End}
use Rattle.cells.specs.declared.End.TheVariants.{Exit, Break as by_break, Illegal as by_illegal, Misfetch as by_misfetch}
use Rattle.cells.specs.Cells.{Arch}
use Rattle.cells.specs.Bytes.{byte_cells, bytes_from, after_puts}
use Rattle.cells.specs.Run.{State, is_over, printed, step_by}
use Rattle.cells.specs.Seen.{among}
use Rattle.rv_semantics.specs.declared.Flow.{Flow}
use Rattle.rv_semantics.specs.declared.Flow.TheVariants.{Next, Call, Break, Illegal, Misfetch}
use Rattle.rv_semantics.specs.Effect.{after, is_output}
use Rattle.rv_semantics.specs.Machine.{word_at, flow_of, machine_in, machine}

-- the number -n in 32 bits
abbrev pub minus : ℕ → ℕ
minus n = 2 ^ 32 - n

-- the answer of a call is put into x10, and the run goes on behind it
abbrev pub answered : ℕ → Arch → Arch
answered v a = record { pc = after a.pc; regs = λ r. cond (nat_eq r 10) v (a.regs r); mem = a.mem }

-- how many bytes a read takes: no more than asked for, than 65,536, and than the input has left
abbrev pub read_count : State → ℕ
read_count s = min (min (s.arch.regs 12) 65536) (length s.env.input - s.env.taken)

-- a read that takes what there is of the input, at most so many bytes
abbrev pub read_some : State → State
read_some s = record {
  arch = record (answered (read_count s) s.arch) { mem = after_puts s.arch.mem (s.arch.regs 11) (take (read_count s) (drop s.env.taken s.env.input)) };
  env = record s.env { taken = s.env.taken + read_count s };
}

-- a call that answers a number and does nothing else
abbrev pub answers : ℕ → State → State
answers v s = record s { arch = answered v s.arch }

-- from the descriptor 0 alone
unfoldable pub read : State → State
read s = if s.arch.regs 10 == 0 then read_some s else answers (minus 9) s

-- how many bytes a write takes: 65,536 at most
abbrev pub write_count : State → ℕ
write_count s = min (s.arch.regs 12) 65536

-- a write to one of the descriptors of output
abbrev pub write_some : State → State
write_some s = record {
  arch = answered (write_count s) s.arch;
  env = record s.env { output = s.env.output ++ bytes_from (write_count s) (s.arch.regs 11) s.arch.mem };
}

-- a write: to another descriptor it answers that it is bad
unfoldable pub write : State → State
write s = if is_output (s.arch.regs 10) then write_some s else answers (minus 9) s

-- the end is set, and nothing else changes
abbrev pub ended : End → State → State
ended e s = record s { env = record s.env { over = Some e } }

-- the break moves to where it is wanted, within its bounds alone
abbrev pub break_after : ℕ → ℕ → ℕ → ℕ
break_after lowest wanted now = if nat_le lowest wanted && nat_le wanted 0x70000000 then wanted else now

-- where memory ends after a call of BRK
abbrev pub new_break : State → ℕ
new_break s = break_after s.env.first_break (s.arch.regs 10) s.env.brk

-- a call of BRK
unfoldable pub brk : State → State
brk s = record { arch = answered (new_break s) s.arch; env = record s.env { brk = new_break s } }

-- by the number in x17
abbrev pub called : ℕ → State → State
called n s =
    if n == 63 then read s
    else if n == 64 then write s
    else if (n == 93) || (n == 94) then ended (Exit (s.arch.regs 10)) s
    else if n == 214 then brk s
    else answers (minus 38) s

-- the state behind an instruction that doesn't simply go on
abbrev pub stopped : Flow → State → State
stopped (Next pc) s = s
stopped Call s = called (s.arch.regs 17) s
stopped Break s = ended by_break s
stopped (Illegal word) s = ended (by_illegal word) s
stopped (Misfetch target) s = ended (by_misfetch target) s

-- where a run goes on from a state
abbrev pub flow_at : State → Flow
flow_at s = flow_of (word_at s.arch) s.arch

-- the call or the end at the pc
unfoldable pub call : State → State
call s = stopped (flow_at s) s

-- one step
abbrev pub step : State → State
step s = step_by machine call s

-- the cells that a call puts: x10, unless it is an exit, and the bytes that a read takes
abbrev pub call_puts : State → Cell → Bool
call_puts s Pc = false
call_puts s (Reg r) = nat_eq r 10 && not (nat_eq (s.arch.regs 17) 93 || nat_eq (s.arch.regs 17) 94)
call_puts s (Byte a) = (nat_eq (s.arch.regs 17) 63 && nat_eq (s.arch.regs 10) 0) && among (byte_cells (read_count s) (s.arch.regs 11)) (Byte a)

-- which cells are put where an instruction doesn't simply go on
abbrev pub stop_puts : State → Flow → Cell → Bool
stop_puts s Call x = call_puts s x
stop_puts s _ x = false

-- the cells that the step of a state writes
unfoldable pub writes : State → Cell → Bool
writes s x = cond (machine.stops s.arch) (stop_puts s (flow_at s) x) (machine.writes s.arch x)

-- what a task does is a step of the run, wherever it may print
abbrev pub TaskStepsAreSteps : Type 0
TaskStepsAreSteps =
    (prints : ℕ → Bool) (s : State) → is_over s ≡ false → (machine_in prints).stops s.arch ≡ false
    → step s ≡ record { arch = (machine_in prints).move s.arch; env = printed s.env ((machine_in prints).says s.arch) }

-- a step that a task does writes what the run's step writes
abbrev pub TaskStepsWrite : Type 0
TaskStepsWrite =
    (prints : ℕ → Bool) (s : State) → (machine_in prints).stops s.arch ≡ false → (x : Cell) → writes s x ≡ (machine_in prints).writes s.arch x
