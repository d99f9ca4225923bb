-- The parts that are left decide.
use Rattle.std.proofs.Common.{◌≡◌, length}
use Rattle.elf_reader.specs.Executable.{memory_of}
use Rattle.elf_reader.proofs.program.byte_at.Given as goal

abbrev pub invariant-loop-part : goal.invariant-loop-part
invariant-loop-part l = memory_of l.below l.address ≡ memory_of l.parts l.address

abbrev pub decreases-loop-part : goal.decreases-loop-part
decreases-loop-part l = length l.below
