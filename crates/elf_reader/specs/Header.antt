-- The fields of a file that matter here, by their offsets, and named as in the System V ABI, chapters "ELF Header" and "Program Header", 32-bit.
use Rattle.std.specs.Prelude.{ℕ, ◌+◌, ◌*◌, zero, suc, List, [], ◌∷◌, drop}
use Rattle.byteorder.specs.Endian.{little_number}
use Rattle.elf_reader.specs.declared.header.FileHeader.{FileHeader}
use Rattle.elf_reader.specs.declared.header.ProgramHeader.{ProgramHeader}

-- the number in the n bytes at an offset, the lowest first
abbrev pub field : ℕ → ℕ → List ℕ → ℕ
field n offset bytes = little_number n (drop offset bytes)

-- the fields of the file header
abbrev pub file_header : List ℕ → FileHeader
file_header file = record {
  e_type = field 2 16 file;
  e_machine = field 2 18 file;
  e_entry = field 4 24 file;
  e_phoff = field 4 28 file;
  e_flags = field 4 36 file;
  e_phentsize = field 2 42 file;
  e_phnum = field 2 44 file;
}

-- the program header that these bytes begin with
abbrev pub program_header : List ℕ → ProgramHeader
program_header bytes = record {
  p_type = field 4 0 bytes;
  p_offset = field 4 4 bytes;
  p_vaddr = field 4 8 bytes;
  p_filesz = field 4 16 bytes;
  p_memsz = field 4 20 bytes;
}

-- where program header i begins
abbrev pub header_place : FileHeader → ℕ → ℕ
header_place header i = header.e_phoff + 32 * i

-- the n program headers from number i on
abbrev pub headers_from : List ℕ → FileHeader → ℕ → ℕ → List ProgramHeader
headers_from file header i zero = []
headers_from file header i (suc n) = program_header (drop (header_place header i) file) ∷ headers_from file header (i + 1) n

-- the program headers of a file with this header
abbrev pub program_headers : List ℕ → FileHeader → List ProgramHeader
program_headers file header = headers_from file header 0 header.e_phnum
