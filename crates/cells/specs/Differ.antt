-- The first cell, in the order Pc, registers by number, bytes by address, whose recorded value is not the one found.
use Rattle.std.specs.Prelude.{◌≡◌, ℕ, ◌<◌, ◌^◌, zero, suc, Bool, true, false, not, cond, Option, Some, None, nat_eq, unwrap_or, option_map}
use Rattle.cells.specs.declared.Cell.{Cell}
use Rattle.cells.specs.declared.Cell.TheVariants.{Pc, Reg, Byte}
use Rattle.cells.specs.declared.Differ.{Differ}

-- the first number that was kept, else this one where it counts
abbrev pub keep_or : Option ℕ → Bool → ℕ → Option ℕ
keep_or (Some k) b n = Some k
keep_or None true n = Some n
keep_or None false n = None

-- the least number below n that passes
unfoldable pub first_where : (ℕ → Bool) → ℕ → Option ℕ
first_where p zero = None
first_where p (suc n) = keep_or (first_where p n) (p n) n

-- a value is recorded, and another one is found
abbrev pub is_other : Option ℕ → ℕ → Bool
is_other None v = false
is_other (Some p) v = not (nat_eq p v)

-- whether a cell is recorded and another value is found there
abbrev pub differs : (Cell → Option ℕ) → (Cell → ℕ) → Cell → Bool
differs recorded found x = is_other (recorded x) (found x)

-- the first of two where there is one, else the second
abbrev pub or_else : Option Cell → Option Cell → Option Cell
or_else None o = o
or_else (Some x) o = Some x

-- a number as a cell of one kind
abbrev pub as_cell : (ℕ → Cell) → Option ℕ → Option Cell
as_cell make None = None
as_cell make (Some k) = Some (make k)

-- the least register that differs
abbrev pub first_reg : (Cell → Option ℕ) → (Cell → ℕ) → Option ℕ
first_reg recorded found = first_where (λ n. differs recorded found (Reg n)) 32

-- the least address whose byte differs
abbrev pub first_byte : (Cell → Option ℕ) → (Cell → ℕ) → Option ℕ
first_byte recorded found = first_where (λ a. differs recorded found (Byte a)) (2 ^ 32)

-- the first cell that differs: pc, then registers, then bytes, each by number
abbrev pub first_cell : (Cell → Option ℕ) → (Cell → ℕ) → Option Cell
first_cell recorded found =
    or_else (cond (differs recorded found Pc) (Some Pc) None) (or_else (as_cell Reg (first_reg recorded found)) (as_cell Byte (first_byte recorded found)))

-- a cell that differs, with the value that was recorded and the one that is found
abbrev pub told : (Cell → Option ℕ) → (Cell → ℕ) → Cell → Differ
told recorded found x = record { cell = x; predicted = unwrap_or (recorded x) 0; found = found x }

-- what is told of a record and the state that it is compared with: the first cell that differs, if one does
unfoldable pub differ : (Cell → Option ℕ) → (Cell → ℕ) → Option Differ
differ recorded found = option_map (told recorded found) (first_cell recorded found)

-- The order, in words of its own: x stands before y
abbrev pub IsBefore : Cell → Cell → Type 0
IsBefore Pc Pc = ⊥
IsBefore Pc (Reg n) = Unit {0}
IsBefore Pc (Byte b) = Unit {0}
IsBefore (Reg m) Pc = ⊥
IsBefore (Reg m) (Reg n) = m < n
IsBefore (Reg m) (Byte b) = Unit {0}
IsBefore (Byte a) Pc = ⊥
IsBefore (Byte a) (Reg n) = ⊥
IsBefore (Byte a) (Byte b) = a < b

-- the numbers that are looked at: those of cells, and register 0, of which no step records a value
abbrev pub IsPlace : Cell → Type 0
IsPlace Pc = Unit {0}
IsPlace (Reg n) = n < 32
IsPlace (Byte a) = a < 2 ^ 32

-- what is told is a recorded cell with its two values, which are not the same, and no cell before it differs
pub record IsFirst (recorded : Cell → Option ℕ) (found : Cell → ℕ) (d : Differ) : Type 0 where
  pub is_place : IsPlace d.cell
  pub was_recorded : recorded d.cell ≡ Some d.predicted
  pub is_found : found d.cell ≡ d.found
  pub other : d.predicted ≡ d.found → ⊥
  pub first : (x : Cell) → IsPlace x → IsBefore x d.cell → differs recorded found x ≡ false

-- what `differ` answers is the first difference, or there is none
abbrev pub IsFirstDiffer : (Cell → Option ℕ) → (Cell → ℕ) → Option Differ → Type 0
IsFirstDiffer recorded found None = (x : Cell) → IsPlace x → differs recorded found x ≡ false
IsFirstDiffer recorded found (Some d) = IsFirst recorded found d
