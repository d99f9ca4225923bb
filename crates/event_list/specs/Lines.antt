-- The lines of a file.
use Rattle.std.specs.Prelude.{ℕ, ◌==◌, if◌then◌else◌, List, [], ◌∷◌}
use Rattle.std.specs.List.{onto_first}

-- a byte in front of lines: a line feed (byte 10) ends a line that is empty up to there, and every other byte begins the first line
abbrev pub in_front : ℕ → List (List ℕ) → List (List ℕ)
in_front byte rest = if byte == 10 then [] ∷ rest else onto_first byte rest

-- Each line ends with a line feed, which the last may lack. Where no byte is left, there is no line.
unfoldable pub lines : List ℕ → List (List ℕ)
lines [] = []
lines (byte ∷ more) = in_front byte (lines more)
