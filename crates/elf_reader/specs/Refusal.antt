-- Which files are refused: a table of refusals with their conditions, of which the first that stands is the answer.
use Rattle.std.specs.Prelude.{ℕ, ◌+◌, ◌%◌, ◌<◌, ◌≤◌, ◌==◌, nat_lt, nat_eq, not, ◌&&◌, ◌||◌, Bool, cond, List, [], ◌∷◌, ◌++◌, length, slice_index, flat_map, Option, Some, None}
use Rattle.std.specs.List.{starts_with, enumerate_from, list_any}
use Rattle.elf_reader.specs.declared.error.ElfErr.{ElfErr}
use Rattle.elf_reader.specs.declared.error.ElfErr.TheVariants.{Short, Magic, Class, Endian, Version, Kind, Machine, Flags, Entry, Table, TooMany, Interp, Outside, Larger, Wraps}
use Rattle.elf_reader.specs.declared.header.FileHeader.{FileHeader}
use Rattle.elf_reader.specs.declared.header.ProgramHeader.{ProgramHeader}
use Rattle.elf_reader.specs.Header.{file_header, program_headers, header_place}

-- the first refusal whose condition holds
abbrev pub first_that_stands : List (Bool × ElfErr) → Option ElfErr
first_that_stands [] = None
first_that_stands (row ∷ rows) = cond row.0 (Some row.1) (first_that_stands rows)

-- The first bytes: 7F and `ELF`, then EI_CLASS, EI_DATA and EI_VERSION. A field past the end of a file reads 0 and plays no part, since Short stands above.
unfoldable pub identification_rows : List ℕ → List (Bool × ElfErr)
identification_rows file =
    (nat_lt (length file) 52, Short)
    ∷ (not (starts_with nat_eq file (0x7F ∷ 0x45 ∷ 0x4C ∷ 0x46 ∷ [])), Magic)
    ∷ (not (slice_index file 4 == 1), Class)
    ∷ (not (slice_index file 5 == 1), Endian)
    ∷ (not (slice_index file 6 == 1), Version)
    ∷ []

-- whether a segment is loaded: its type is PT_LOAD
abbrev pub is_load : ProgramHeader → Bool
is_load header = header.p_type == 1

-- whether a segment names an interpreter: its type is PT_INTERP
abbrev pub is_interpreter : ProgramHeader → Bool
is_interpreter header = header.p_type == 3

-- whether there are program headers, and they don't have 32 bytes each or their table ends past the file
abbrev pub lacks_table : List ℕ → FileHeader → Bool
lacks_table file header =
    nat_lt 0 header.e_phnum && (not (header.e_phentsize == 32) || nat_lt (length file) (header_place header header.e_phnum))

-- The rest of the file's header. ET_EXEC is 2 and EM_RISCV 243; the low four flags are those of compressed code, of floats in registers and of RV32E (RISC-V ELF psABI, "File Header").
unfoldable pub header_rows : List ℕ → FileHeader → List (Bool × ElfErr)
header_rows file header =
    (not (header.e_type == 2), Kind)
    ∷ (not (header.e_machine == 243), Machine)
    ∷ (not (header.e_flags % 16 == 0), Flags)
    ∷ (not (header.e_entry % 4 == 0), Entry)
    ∷ (lacks_table file header, Table)
    ∷ (nat_lt 64 header.e_phnum, TooMany)
    ∷ []

-- the faults of program header i: of one that isn't loaded there are none, whatever its fields say
unfoldable pub fault_rows : List ℕ → ℕ → ProgramHeader → List (Bool × ElfErr)
fault_rows file i header =
    (is_load header && nat_lt (length file) (header.p_offset + header.p_filesz), Outside i)
    ∷ (is_load header && nat_lt header.p_memsz header.p_filesz, Larger i)
    ∷ (is_load header && nat_lt 0xFFFF_F000 (header.p_vaddr + header.p_memsz), Wraps i)
    ∷ []

-- the faults of program headers whose numbers begin at i
abbrev pub faults_from : List ℕ → ℕ → List ProgramHeader → List (Bool × ElfErr)
faults_from file i headers = flat_map (λ numbered. fault_rows file numbered.0 numbered.1) (enumerate_from i headers)

-- the faults of all program headers, in their order
abbrev pub faults : List ℕ → FileHeader → List (Bool × ElfErr)
faults file header = faults_from file 0 (program_headers file header)

-- the whole table
abbrev pub refusal_rows : List ℕ → List (Bool × ElfErr)
refusal_rows file =
    let header = file_header file in
    identification_rows file
    ++ header_rows file header
    ++ (list_any is_interpreter (program_headers file header), Interp)
    ∷ faults file header

-- why a file is refused, or None where it is accepted
unfoldable pub refusal : List ℕ → Option ElfErr
refusal file = first_that_stands (refusal_rows file)

-- the table of program headers lies within the file, unless there are none
abbrev pub HasTable : List ℕ → FileHeader → Type 0
HasTable file header = 0 < header.e_phnum → header_place header header.e_phnum ≤ length file
