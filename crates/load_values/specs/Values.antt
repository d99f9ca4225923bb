-- Addresses of loads with the one value that each loads, and which lists of them a file holds.
use Rattle.std.specs.Prelude.{ℕ, ◌<◌, ◌≤◌, ◌^◌, List, length, map, IsSome, All}
use Rattle.std.specs.List.Sorted.{IsStrictlyIncreasing}
use Rattle.rv_word.specs.Constant.{constant_word}
use Rattle.cells.specs.Cells.{IsPc}

-- the pc of a row
abbrev pub pc_of : ℕ × ℕ → ℕ
pc_of e = e.0

-- the address of an instruction, and a value of 32 bits to which one word sets a register
pub record IsRow (e : ℕ × ℕ) : Type 0 where
  pub pc : IsPc e.0
  pub word : IsSome (constant_word 1 e.1)
  pub small : e.1 < 2 ^ 32

-- both are numbers of 32 bits
abbrev pub IsSmall : ℕ × ℕ → Type 0
IsSmall e = (e.0 < 2 ^ 32) × (e.1 < 2 ^ 32)

-- a list that can be written: few rows, in range, rising
pub record AreValues (list : List (ℕ × ℕ)) : Type 0 where
  pub few : length list ≤ 524_288
  pub rows : All IsRow list
  pub rise : IsStrictlyIncreasing (map pc_of list)
