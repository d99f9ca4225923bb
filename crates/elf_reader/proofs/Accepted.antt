-- What holds of the program of an accepted file.
use Rattle.std.proofs.Common.{◌≡◌, ℕ, ◌+◌, ◌≤◌, Bool, true, false, cond, List, [], ◌∷◌, length, take, drop, map, filter, None, All, refl, sym, ap, ◌∙◌, subst, arith}
use Rattle.std.proofs.lemmas.List.{length-map, length-take}
use Rattle.std.specs.List.{AllByRecursion}
use Rattle.std.proofs.lemmas.List.Elements.{All-from_recursion}
use Rattle.elf_reader.specs.declared.header.FileHeader.{FileHeader}
use Rattle.elf_reader.specs.declared.header.ProgramHeader.{ProgramHeader}
use Rattle.elf_reader.specs.Executable.{Segment, Executable, end_of, first_break_of, IsProgram}
use Rattle.elf_reader.specs.Header.{file_header, program_headers}
use Rattle.elf_reader.specs.Refusal.{first_that_stands, is_load, fault_rows, faults_from, refusal}
use Rattle.elf_reader.specs.Accepted.{segment, segments, program_of}
use Rattle.elf_reader.proofs.Faults.{is_sound, IsSound}
use Rattle.elf_reader.proofs.Headers.{length-headers_from}
use Rattle.elf_reader.proofs.Rows.{none-append, passes_all, header_fits}

-- the program of a file that had this header
abbrev program_with : List ℕ → FileHeader → Executable
program_with file header =
    let parts = segments file (program_headers file header) in
    record { entry = header.e_entry; parts = parts; first_break = first_break_of parts }

-- a filter keeps no more than there is
length-filter-≤ : {X : Type 0} (p : X → Bool) (xs : List X) → length (filter p xs) ≤ length xs
length-filter-≤ p [] = omega arith
length-filter-≤ p (x ∷ xs) =
    let rest = length-filter-≤ p xs in
    elim (p x) as (λ b. length (cond b (x ∷ filter p xs) (filter p xs)) ≤ length (x ∷ xs)) [ true ↦ omega arith | false ↦ omega arith ]

-- a part ends where its header says
end_of-segment : (file : List ℕ) (entry : ProgramHeader) → IsSound file entry → end_of (segment file entry) ≤ 0xFFFF_F000
end_of-segment file entry sound =
    let bytes : length (take entry.p_filesz (drop entry.p_offset file)) ≤ entry.p_filesz = omega (arith, length-take entry.p_filesz (drop entry.p_offset file)) in
    omega (arith, sound.fits, sound.below)

-- no part of headers without a fault ends past the last address that is allowed
ends : (file : List ℕ) (i : ℕ) (entries : List ProgramHeader) → None ≡ first_that_stands (faults_from file i entries) →
    AllByRecursion (λ part. end_of part ≤ 0xFFFF_F000) (segments file entries)
ends file i [] h = tt
ends file i (entry ∷ entries) h =
    let faults = none-append (fault_rows file i entry) (faults_from file (i + 1) entries) h in
    let rest = ends file (i + 1) entries faults.1 in
    let only : (b : Bool) → is_load entry ≡ b → AllByRecursion (λ part. end_of part ≤ 0xFFFF_F000) (map (segment file) (cond b (entry ∷ filter is_load entries) (filter is_load entries))) =
    λ b. elim b as (λ v. is_load entry ≡ v → AllByRecursion (λ part. end_of part ≤ 0xFFFF_F000) (map (segment file) (cond v (entry ∷ filter is_load entries) (filter is_load entries)))) [
      | true ↦ λ load. (end_of-segment file entry (is_sound file i entry faults.0 load), rest)
      | false ↦ λ other. rest
    ] in
    only (is_load entry) refl

-- no part of an accepted file ends past the last address that is allowed
pub parts_end : (file : List ℕ) (header : FileHeader) (parts : List Segment) → header ≡ file_header file → None ≡ refusal file →
    parts ≡ segments file (program_headers file header) → All (λ part. end_of part ≤ 0xFFFF_F000) parts
parts_end file header parts is h made =
    let passes = passes_all file header is h in
    let entries = program_headers file header in
    let all = All-from_recursion (λ part. end_of part ≤ 0xFFFF_F000) (segments file entries) (ends file 0 entries passes.loads) in
    subst (λ (ps : List Segment). All (λ part. end_of part ≤ 0xFFFF_F000) ps) (sym made) all

-- there are no more parts than headers
few : {n : ℕ} (make : ProgramHeader → Segment) (some all : List ProgramHeader) → length some ≤ length all → length all ≡ n → n ≤ 64 → length (map make some) ≤ 64
few make some all h e small = let kept = length-map some make in omega arith

-- the program, made with the header that was read
pub program_is : (file : List ℕ) (header : FileHeader) (parts : List Segment) (break : ℕ) → header ≡ file_header file →
    parts ≡ segments file (program_headers file header) → break ≡ first_break_of parts →
    record { entry = header.e_entry; parts = parts; first_break = break } ≡ program_of file
unfolding program_of
program_is file header parts break is made top =
    let whole : record { entry = header.e_entry; parts = parts; first_break = break } ≡ program_with file header =
    λ i. record { entry = header.e_entry; parts = made i; first_break = (top ∙ ap first_break_of made) i } in
    subst (λ (r : FileHeader). record { entry = header.e_entry; parts = parts; first_break = break } ≡ program_with file r) is whole

-- the program of an accepted file is one
pub is_program : (file : List ℕ) → None ≡ refusal file → IsProgram (program_of file)
unfolding program_of
is_program file h =
    let passes = passes_all file (file_header file) refl h in
    let fits = header_fits file (file_header file) passes.rest in
    let headers = program_headers file (file_header file) in
    record {
      aligned = fits.aligned;
      few = few (segment file) (filter is_load headers) headers (length-filter-≤ is_load headers) (length-headers_from file (file_header file) 0 (file_header file).e_phnum) fits.few;
      ends = parts_end file (file_header file) (segments file headers) refl h refl;
      first_break = refl;
    }
