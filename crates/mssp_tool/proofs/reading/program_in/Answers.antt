-- The file that was read, and accepted.
use Rattle.std.proofs.Common.{sym, ap, ◌∙◌}
use Rattle.elf_reader.specs.Refusal.{refusal}
use Rattle.elf_reader.specs.Accepted.{program_of}
use Rattle.mssp_tool.proofs.reading.program_in.Goals as goal

pub returns-in-Ok-clause-answer : goal.returns-in-Ok-clause-answer
returns-in-Ok-clause-answer g c =
    let same = c.deref.ensures.value in
    let accepted = c.in-Ok.ensures.accepted in (
      c.in-Ok.ensures.program,
      (
        c.in_ok-file.file.items,
        record { read = c.in_ok-file.ensures.answer; accepted = ap refusal (sym same) ∙ accepted.0 },
        accepted.1 ∙ ap program_of same,
      ),
    )
