-- Bytes of memory from an address on, the lowest first. Addresses wrap: after 2 ^ 32 - 1 comes 0.
use Rattle.std.specs.Prelude.{ℕ, ◌+◌, ◌*◌, ◌%◌, ◌^◌, zero, suc, cond, nat_eq, List, [], ◌∷◌}
use Rattle.cells.specs.declared.Cell.{Cell}
use Rattle.cells.specs.declared.Cell.TheVariants.{Byte}

-- the k cells from address a on
abbrev pub byte_cells : ℕ → ℕ → List Cell
byte_cells zero a = []
byte_cells (suc k) a = Byte (a % 2 ^ 32) ∷ byte_cells k (a + 1)

-- the k bytes that a memory holds there
abbrev pub bytes_from : ℕ → ℕ → (ℕ → ℕ) → List ℕ
bytes_from zero a m = []
bytes_from (suc k) a m = m (a % 2 ^ 32) ∷ bytes_from k (a + 1) m

-- the number that these k bytes spell
abbrev pub number : ℕ → ℕ → (ℕ → ℕ) → ℕ
number zero a m = 0
number (suc k) a m = m (a % 2 ^ 32) + 2 ^ 8 * number k (a + 1) m

-- the word of four bytes that a memory holds at a pc
abbrev pub word_of : (ℕ → ℕ) → ℕ → ℕ
word_of mem pc = number 4 pc mem

-- the cells from a on with these bytes
abbrev pub byte_puts : ℕ → List ℕ → List (Cell × ℕ)
byte_puts a [] = []
byte_puts a (v ∷ vs) = (Byte (a % 2 ^ 32), v) ∷ byte_puts (a + 1) vs

-- the memory once these bytes were put from a on
abbrev pub after_puts : (ℕ → ℕ) → ℕ → List ℕ → ℕ → ℕ
after_puts m a [] = m
after_puts m a (v ∷ vs) = after_puts (λ b. cond (nat_eq (a % 2 ^ 32) b) v (m b)) (a + 1) vs
