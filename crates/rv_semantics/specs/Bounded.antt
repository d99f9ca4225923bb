-- How many cells pass a test.
use Rattle.std.specs.Prelude.{◌≡◌, ℕ, ◌≤◌, Bool, true, List, length, ◌⊎◌}
use Rattle.cells.specs.declared.Cell.{Cell}
use Rattle.cells.specs.Cells.{is_pc}
use Rattle.cells.specs.Seen.{among}

-- all cells that pass, but for the pc, are among so many
abbrev pub IsAmong : (Cell → Bool) → ℕ → Type 0
IsAmong test most = (cs : List Cell) × (length cs ≤ most) × ((x : Cell) → test x ≡ true → (is_pc x ≡ true) ⊎ (among cs x ≡ true))
