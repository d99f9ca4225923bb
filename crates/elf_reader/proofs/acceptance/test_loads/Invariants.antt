-- The first fault of all is the first of the headers that are left.
use Rattle.std.proofs.Common.{◌≡◌, ◌-◌}
use Rattle.elf_reader.specs.Header.{headers_from, program_headers}
use Rattle.elf_reader.specs.Refusal.{first_that_stands, faults_from}
use Rattle.elf_reader.proofs.acceptance.test_loads.Given as goal

abbrev pub invariant-loop-number : goal.invariant-loop-number
invariant-loop-number l =
    first_that_stands (faults_from l.file l.number (headers_from l.file l.header l.number (l.header.e_phnum - l.number)))
    ≡ first_that_stands (faults_from l.file 0 (program_headers l.file l.header))
