-- The parts of a file have bytes, and memory made of bytes has words of 32 bits.
use Rattle.std.proofs.Common.{ℕ, ◌+◌, ◌-◌, ◌%◌, ◌^◌, ◌<◌, Bool, true, false, cond, zero, suc, List, [], ◌∷◌, map, filter, take, drop, get_or, Some, None, arith, lit<}
use Rattle.std.specs.Prelude.{unwrap_or, fold}
use Rattle.std.proofs.lemmas.List.{get_or-drop}
use Rattle.std.proofs.lemmas.List.Elements.{All-head, All-tail, All-nil, All-cons}
use Rattle.cells.specs.Bytes.{number}
use Rattle.elf_reader.specs.declared.header.ProgramHeader.{ProgramHeader}
use Rattle.elf_reader.specs.Refusal.{is_load}
use Rattle.elf_reader.specs.Accepted.{segment, segments}
use Rattle.elf_reader.specs.Executable.{Segment, covers, byte_in, memory_of, AreBytes, HaveBytes}

-- the first so many bytes
taken : (n : ℕ) (bytes : List ℕ) → AreBytes bytes → AreBytes (take n bytes)
taken zero bytes are i = lit< tt
taken (suc n) [] are i = lit< tt
taken (suc n) (b ∷ bytes) are zero = are zero
taken (suc n) (b ∷ bytes) are (suc i) = taken n bytes (λ j. are (suc j)) i

-- the others
dropped : (n : ℕ) (bytes : List ℕ) → AreBytes bytes → AreBytes (drop n bytes)
dropped n bytes are i = rw (get_or-drop n bytes i 0) (are (n + i))

-- the parts that headers ask for
parts_have : (file : List ℕ) (entries : List ProgramHeader) → AreBytes file → HaveBytes (map (segment file) entries)
parts_have file [] are = All-nil (λ (p : Segment). AreBytes p.bytes)
parts_have file (e ∷ entries) are =
    All-cons (λ (p : Segment). AreBytes p.bytes) (segment file e) (map (segment file) entries)
    (taken e.p_filesz (drop e.p_offset file) (dropped e.p_offset file are)) (parts_have file entries are)

-- the parts of a file
pub have_bytes : (file : List ℕ) (entries : List ProgramHeader) → AreBytes file → HaveBytes (segments file entries)
have_bytes file entries are = parts_have file (filter is_load entries) are

-- a byte of a part, or the byte below it
over : (part : Segment) (a below : ℕ) → AreBytes part.bytes → below < 256 → unwrap_or (byte_in part a) below < 256
over part a below bytes small = covered (covers part a)
  where
    covered : (b : Bool) → unwrap_or (cond b (Some (get_or part.bytes (a - part.at) 0)) None) below < 256
    covered true = bytes (a - part.at)
    covered false = small

-- each byte of the memory
pub small_bytes : (parts : List Segment) (a : ℕ) → HaveBytes parts → memory_of parts a < 256
small_bytes parts a bytes = laid parts 0 bytes (lit< tt)
  where
    laid : (parts : List Segment) (below : ℕ) → HaveBytes parts → below < 256 → fold (λ below part. unwrap_or (byte_in part a) below) below parts < 256
    laid [] below h small = small
    laid (part ∷ parts) below h small =
        laid parts (unwrap_or (byte_in part a) below) (All-tail (λ (p : Segment). AreBytes p.bytes) part parts h) (over part a below (All-head (λ (p : Segment). AreBytes p.bytes) part parts h) small)

-- each word of it
pub small_words : (m : ℕ → ℕ) (pc : ℕ) → ((a : ℕ) → m a < 256) → number 4 pc m < 2 ^ 32
small_words m pc small =
    let a = small (pc % 2 ^ 32) in
    let b = small ((pc + 1) % 2 ^ 32) in
    let c = small ((pc + 1 + 1) % 2 ^ 32) in
    let d = small ((pc + 1 + 1 + 1) % 2 ^ 32) in
    omega (arith, a, b, c, d)
