-- The bytes of a list of values. Each number has four bytes, the lowest first.
use Rattle.std.specs.Prelude.{ℕ, List, [], ◌∷◌, ◌++◌, length}
use Rattle.std.specs.List.{flat_map}
use Rattle.word_format.specs.Bytes.{words}

-- the magic number is the text `MSPV`, and the version is 1
abbrev pub header_bytes : List (ℕ × ℕ) → List ℕ
header_bytes rows = words (0x5650_534D ∷ 1 ∷ length rows ∷ [])

-- the bytes of a row: a pc and a value
abbrev pub row_bytes : ℕ × ℕ → List ℕ
row_bytes e = words (e.0 ∷ e.1 ∷ [])

-- the bytes of a file of values
abbrev pub bytes_of : List (ℕ × ℕ) → List ℕ
bytes_of rows = header_bytes rows ++ flat_map row_bytes rows
