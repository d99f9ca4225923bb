-- The parts so far and those of the headers that are left are all parts, and no header that is left has a fault.
use Rattle.std.proofs.Common.{◌≡◌, ◌-◌, ◌++◌, None}
use Rattle.elf_reader.specs.Header.{headers_from, program_headers}
use Rattle.elf_reader.specs.Refusal.{first_that_stands, faults_from}
use Rattle.elf_reader.specs.Accepted.{segments}
use Rattle.elf_reader.proofs.build.parts_of.Given as goal

abbrev pub invariant-loop-number : goal.invariant-loop-number
invariant-loop-number l =
    let left = headers_from l.file l.header l.number (l.header.e_phnum - l.number) in
    record {
      sound : first_that_stands (faults_from l.file l.number left) ≡ None;
      parts : l.parts.items ++ segments l.file left ≡ segments l.file (program_headers l.file l.header);
    }
