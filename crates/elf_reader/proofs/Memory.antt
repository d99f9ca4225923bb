-- Want of memory is no refusal.
use Rattle.std.proofs.Common.{◌≡◌, ℕ, ◌+◌, Bool, true, false, cond, List, [], ◌∷◌, Some, refl, ap}
use Rattle.elf_reader.specs.declared.error.ElfErr.{ElfErr}
use Rattle.elf_reader.specs.declared.error.ElfErr.TheVariants.{Memory}
use Rattle.elf_reader.specs.declared.header.ProgramHeader.{ProgramHeader}
use Rattle.elf_reader.specs.Header.{file_header, program_headers}
use Rattle.elf_reader.specs.Refusal.{first_that_stands, identification_rows, header_rows, fault_rows, faults_from, refusal_rows, refusal}

-- whether an error is want of memory
abbrev names_memory : ElfErr → Bool
names_memory Memory = true
names_memory _ = false

-- no row names it
abbrev never_memory : List (Bool × ElfErr) → Bool
never_memory [] = true
never_memory (row ∷ rows) = cond (names_memory row.1) false (never_memory rows)

-- the first that stands among such rows isn't it either
first-never_memory : (rows : List (Bool × ElfErr)) → never_memory rows ≡ true → Some Memory ≡ first_that_stands rows → ⊥
first-never_memory [] h e = cc
first-never_memory (row ∷ rows) h e =
    (elim row.0 as (λ b. Some Memory ≡ cond b (Some row.1) (first_that_stands rows) → ⊥) [
      | true ↦ λ p. let is : Memory ≡ row.1 = cc in let named : true ≡ names_memory row.1 = ap names_memory is in let none = rw (← named) at h in cc
      | false ↦ λ p. first-never_memory rows (past (names_memory row.1) (never_memory rows) h) p
    ]) e
  where
    -- the rows after one that doesn't name it
    past : (b c : Bool) → cond b false c ≡ true → c ≡ true
    past true c h = cc
    past false c h = h

-- no fault of a header is
faults_from-never_memory : (file : List ℕ) (i : ℕ) (entries : List ProgramHeader) → never_memory (faults_from file i entries) ≡ true
unfolding fault_rows
faults_from-never_memory file i [] = refl
faults_from-never_memory file i (entry ∷ entries) = faults_from-never_memory file (i + 1) entries

-- no refusal of a file is
pub refusal-never_memory : (file : List ℕ) → Some Memory ≡ refusal file → ⊥
unfolding refusal identification_rows header_rows
refusal-never_memory file h =
    first-never_memory (refusal_rows file) (faults_from-never_memory file 0 (program_headers file (file_header file))) h
