-- What holds of a program header without a fault.
use Rattle.std.proofs.Common.{◌≡◌, ℕ, ◌+◌, ◌≤◌, ◌&&◌, Bool, true, false, List, [], ◌∷◌, length, None, nat_lt, arith}
use Rattle.elf_reader.specs.declared.error.ElfErr.TheVariants.{Outside, Larger, Wraps}
use Rattle.elf_reader.specs.declared.header.ProgramHeader.{ProgramHeader}
use Rattle.elf_reader.specs.Refusal.{first_that_stands, is_load, fault_rows}
use Rattle.elf_reader.proofs.Rows.{none-cons}

-- the segment lies within the file, in as much memory, and below the last page
pub record IsSound (file : List ℕ) (entry : ProgramHeader) : Type 0 where
  pub inside : entry.p_offset + entry.p_filesz ≤ length file
  pub fits : entry.p_filesz ≤ entry.p_memsz
  pub below : entry.p_vaddr + entry.p_memsz ≤ 0xFFFF_F000

-- a test that fails beside one that holds
at_most : (b : Bool) (m n : ℕ) → b ≡ true → (b && nat_lt m n) ≡ false → n ≤ m
at_most b m n is h = grind arith

-- a segment that is loaded has none of the faults
pub is_sound : (file : List ℕ) (i : ℕ) (entry : ProgramHeader) → None ≡ first_that_stands (fault_rows file i entry) → is_load entry ≡ true → IsSound file entry
unfolding fault_rows
is_sound file i entry h load =
    let passes_end = is_load entry && nat_lt (length file) (entry.p_offset + entry.p_filesz) in
    let is_larger = is_load entry && nat_lt entry.p_memsz entry.p_filesz in
    let wraps = is_load entry && nat_lt 0xFFFF_F000 (entry.p_vaddr + entry.p_memsz) in
    let first = none-cons passes_end (Outside i) ((is_larger, Larger i) ∷ (wraps, Wraps i) ∷ []) h in
    let second = none-cons is_larger (Larger i) ((wraps, Wraps i) ∷ []) first.1 in
    let third = none-cons wraps (Wraps i) [] second.1 in
    record {
      inside = at_most (is_load entry) _ _ load first.0;
      fits = at_most (is_load entry) _ _ load second.0;
      below = at_most (is_load entry) _ _ load third.0;
    }
