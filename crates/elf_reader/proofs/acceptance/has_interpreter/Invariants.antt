-- Whether an interpreter is wanted depends on the headers that are left.
use Rattle.std.proofs.Common.{◌≡◌, ◌-◌}
use Rattle.std.specs.List.{list_any}
use Rattle.elf_reader.specs.Header.{headers_from, program_headers}
use Rattle.elf_reader.specs.Refusal.{is_interpreter}
use Rattle.elf_reader.proofs.acceptance.has_interpreter.Given as goal

abbrev pub invariant-loop-number : goal.invariant-loop-number
invariant-loop-number l =
    list_any is_interpreter (headers_from l.file l.header l.number (l.header.e_phnum - l.number)) ≡ list_any is_interpreter (program_headers l.file l.header)
