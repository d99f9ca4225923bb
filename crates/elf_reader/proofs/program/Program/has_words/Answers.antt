-- Its bytes are the invariant.
use Rattle.std.proofs.Common.{subst}
use Rattle.elf_reader.specs.Executable.{Executable, HaveBytes, memory_of}
use Rattle.elf_reader.proofs.Small.{small_bytes, small_words}
use Rattle.elf_reader.proofs.program.Program.has_words.Goals as goal

pub returns : goal.returns
returns c pc =
    let parts = c.args.self.now.parts in
    let bytes = subst (λ (p : Executable). HaveBytes p.parts) c.self.view_is c.self.invariant in
    small_words (memory_of parts) pc (λ a. small_bytes parts a bytes)
