-- What an executable file says of a run: where it begins, what lies in memory, and where the break is.
use Rattle.std.specs.Prelude.{◌≡◌, ℕ, ◌+◌, ◌-◌, ◌*◌, ◌/◌, ◌%◌, ◌^◌, ◌<◌, ◌≤◌, nat_lt, nat_le, ◌&&◌, Bool, if◌then◌else◌, List, length, get_or, slice_index, Option, Some, None, fold, map, max, unwrap_or, All}
use Rattle.std.specs.List.{reduce}
use Rattle.cells.specs.Bytes.{word_of}

-- a part of memory: its first address, its bytes, and how many zeros follow them
pub record Segment : Type 0 where
  pub at : ℕ
  pub bytes : List ℕ
  pub zeros : ℕ

-- a program: where it begins, its parts, and where its memory for BRK begins
pub record Executable : Type 0 where
  pub entry : ℕ
  pub parts : List Segment
  pub first_break : ℕ

-- the address after the last one of a part
abbrev pub end_of : Segment → ℕ
end_of part = part.at + length part.bytes + part.zeros

-- whether an address lies in a part
abbrev pub covers : Segment → ℕ → Bool
covers part a = nat_le part.at a && nat_lt a (end_of part)

-- what a part has at an address, if it covers it: a byte, or a zero past its bytes
abbrev pub byte_in : Segment → ℕ → Option ℕ
byte_in part a = if covers part a then Some (slice_index part.bytes (a - part.at)) else None

-- The memory that the parts make, one laid over the other. An address has the byte of the last part that covers it, and 0 where none does.
abbrev pub memory_of : List Segment → ℕ → ℕ
memory_of parts a = fold (λ below part. unwrap_or (byte_in part a) below) 0 parts

-- each is a byte
abbrev pub AreBytes : List ℕ → Type 0
AreBytes bytes = (i : ℕ) → get_or bytes i 0 < 256

-- each part has bytes
abbrev pub HaveBytes : List Segment → Type 0
HaveBytes parts = All (λ part. AreBytes part.bytes) parts

-- each word of the memory that a program begins with has 32 bits
abbrev pub HasWords : Executable → Type 0
HasWords program = (pc : ℕ) → word_of (memory_of program.parts) pc < 2 ^ 32

-- the first multiple of 4096 that isn't below n
abbrev pub page_end : ℕ → ℕ
page_end n = (n + 4095) / 4096 * 4096

-- the first break: no part reaches past it
abbrev pub first_break_of : List Segment → ℕ
first_break_of parts = page_end (unwrap_or (reduce max (map end_of parts)) 0)

-- what calls that take a program ask of it; each program that is read from a file has it
pub record IsProgram (program : Executable) : Type 0 where
  pub aligned : program.entry % 4 ≡ 0
  pub few : length program.parts ≤ 64
  pub ends : All (λ part. end_of part ≤ 0xFFFF_F000) program.parts
  pub first_break : program.first_break ≡ first_break_of program.parts
