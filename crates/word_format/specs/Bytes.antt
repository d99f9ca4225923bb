-- Numbers as bytes, the lowest byte of each first.
use Rattle.std.specs.Prelude.{ℕ, List}
use Rattle.std.specs.List.{flat_map}
use Rattle.std.specs.Int.{w32, to_le_bytes}

-- numbers of four bytes, one after the other
abbrev pub words : List ℕ → List ℕ
words numbers = flat_map (to_le_bytes w32) numbers
