-- The state of a machine between calls, seen as the values of its cells.
use Rattle.std.specs.Prelude.{◌≡◌, ℕ, ◌%◌, ◌<◌, ◌^◌, Bool, true, false, nat_eq}
use Rattle.cells.specs.declared.Cell.{Cell}
use Rattle.cells.specs.declared.Cell.TheVariants.{Pc, Reg, Byte}

-- what an instruction that is no call works on: the pc, the registers and the bytes of memory
pub record Arch : Type 0 where
  pub pc : ℕ
  pub regs : ℕ → ℕ
  pub mem : ℕ → ℕ

-- what a state has in a cell
abbrev pub value : Arch → Cell → ℕ
value s Pc = s.pc
value s (Reg n) = s.regs n
value s (Byte a) = s.mem a

-- the state whose cells have these values
abbrev pub from_cells : (Cell → ℕ) → Arch
from_cells f = record { pc = f Pc; regs = λ n. f (Reg n); mem = λ a. f (Byte a) }

-- the cells that there are: the pc, the registers 1 to 31, and 2 ^ 32 bytes
abbrev pub IsCell : Cell → Type 0
IsCell Pc = Unit {0}
IsCell (Reg n) = (0 < n) × (n < 32)
IsCell (Byte a) = a < 2 ^ 32

-- a program counter: an address of 32 bits, and a multiple of 4
abbrev pub IsPc : ℕ → Type 0
IsPc a = (a % 4 ≡ 0) × (a < 2 ^ 32)

-- whether a cell is the pc
abbrev pub is_pc : Cell → Bool
is_pc Pc = true
is_pc (Reg n) = false
is_pc (Byte a) = false

-- whether a read or a write of the one cell is at the other; the pc is neither read nor written as a cell
abbrev pub same_cell : Cell → Cell → Bool
same_cell (Reg m) (Reg n) = nat_eq m n
same_cell (Byte a) (Byte b) = nat_eq a b
same_cell _ _ = false
