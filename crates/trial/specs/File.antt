-- The file of a program: the header, one program header, and the words.
use Rattle.std.specs.Prelude.{◌≡◌, ℕ, ◌≤◌, ◌*◌, List, [], ◌∷◌, ◌++◌, length, None}
use Rattle.std.specs.List.{flat_map}
use Rattle.std.specs.Int.{w32, to_le_bytes}
use Rattle.elf_reader.specs.Refusal.{refusal}
use Rattle.trial.specs.Made.{words}

-- numbers of four bytes, the lowest first
abbrev pub bytes_of : List ℕ → List ℕ
bytes_of numbers = flat_map (to_le_bytes w32) numbers

-- an executable for RISC-V of 32 bits, the lowest byte first, that begins at 0x10000, with one program header behind this one (System V ABI, "ELF Header")
abbrev pub front : List ℕ
front = 0x464C457F ∷ 0x00010101 ∷ 0 ∷ 0 ∷ 0x00F30002 ∷ 1 ∷ 0x00010000 ∷ 52 ∷ 0 ∷ 0 ∷ 0x00200034 ∷ 1 ∷ 0 ∷ []

-- so many bytes, which stand behind both headers, are loaded at 0x10000, to be read and executed ("Program Header")
abbrev pub loads : ℕ → List ℕ
loads size = 1 ∷ 84 ∷ 0x00010000 ∷ 0x00010000 ∷ size ∷ size ∷ 5 ∷ 4 ∷ []

-- the executable of a list of words
abbrev pub file_of : List ℕ → List ℕ
file_of ws = bytes_of ((front ++ loads (4 * length ws)) ++ ws)

-- a file of up to 10,000 blocks is accepted
abbrev pub MadeIsAccepted : Type 0
MadeIsAccepted = (seed size : ℕ) → size ≤ 10_000 → refusal (file_of (words seed size)) ≡ None
