-- The bytes of a profile. Each number has four or eight bytes, the lowest first.
use Rattle.std.specs.Prelude.{ℕ, ◌+◌, ◌*◌, Bool, if◌then◌else◌, List, ◌++◌, length}
use Rattle.std.specs.List.{flat_map}
use Rattle.std.specs.Int.{w32, w64, to_le_bytes}
use Rattle.word_format.specs.Bytes.{words}
use Rattle.profile_data.specs.Profile.{Tally, Profiled}

-- a number in four bytes, the least first
abbrev pub four : ℕ → List ℕ
four n = to_le_bytes w32 n

-- a number in eight bytes, the least first
abbrev pub eight : ℕ → List ℕ
eight n = to_le_bytes w64 n

-- a mark as a number
abbrev pub mark : Bool → ℕ
mark b = if b then 1 else 0

-- the magic number is the text `MSPF`, and the version is 1
abbrev pub header_bytes : Profiled → List ℕ
header_bytes profile = four 0x4650_534D ++ (four 1 ++ (eight profile.steps ++ (four (mark profile.ended) ++ four (length profile.rows))))

-- bit 0 says that what was stored was read, and bit 1 that the word was changed
abbrev pub flags : Tally → ℕ
flags t = mark t.read + 2 * mark t.changed

-- the five numbers before a row's targets
abbrev pub head_bytes : Tally → List ℕ
head_bytes t = four t.pc ++ (four (flags t) ++ (eight t.executed ++ (eight t.taken ++ four (length t.targets))))

-- the bytes of a row
abbrev pub row_bytes : Tally → List ℕ
row_bytes t = head_bytes t ++ words t.targets

-- the bytes of a profile
abbrev pub bytes_of : Profiled → List ℕ
bytes_of profile = header_bytes profile ++ flat_map row_bytes profile.rows
