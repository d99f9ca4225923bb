-- The program of an accepted file.
use Rattle.std.specs.Prelude.{ℕ, ◌-◌, List, take, drop, map, filter}
use Rattle.elf_reader.specs.declared.header.ProgramHeader.{ProgramHeader}
use Rattle.elf_reader.specs.Executable.{Segment, Executable, first_break_of}
use Rattle.elf_reader.specs.Header.{file_header, program_headers}
use Rattle.elf_reader.specs.Refusal.{is_load}

-- the part that a program header asks for: bytes of the file, then zeros
abbrev pub segment : List ℕ → ProgramHeader → Segment
segment file header = record {
  at = header.p_vaddr;
  bytes = take header.p_filesz (drop header.p_offset file);
  zeros = header.p_memsz - header.p_filesz;
}

-- the parts, in the order of their headers
abbrev pub segments : List ℕ → List ProgramHeader → List Segment
segments file headers = map (segment file) (filter is_load headers)

-- the program of an accepted file
unfoldable pub program_of : List ℕ → Executable
program_of file =
    let header = file_header file in
    let parts = segments file (program_headers file header) in
    record { entry = header.e_entry; parts = parts; first_break = first_break_of parts }
