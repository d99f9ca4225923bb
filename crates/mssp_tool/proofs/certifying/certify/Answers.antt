-- Whether the image fits the program of the bytes that were read.
use Rattle.std.proofs.Common.{inr, subst}
use Rattle.elf_reader.specs.Executable.{Executable}
use Rattle.cuts.specs.Words.{word_in}
use Rattle.certify.specs.Answers.{IsAnswer}
use Rattle.mssp_tool.proofs.certifying.certify.Goals as goal

pub returns-clause-cause : goal.returns-clause-cause
returns-clause-cause g c =
    let has = c.in-Ok.ensures.answer in
    let fit = c.certify-fit.result in
    inr (has.1.0, c.in-Ok.subject.image, fit, has.1.1, has.2, record { answers = subst (λ (x : Executable). IsAnswer (word_in x) c.in-Ok.subject.image fit) has.1.2 c.certify-fit.ensures }, c.tell.ensures)
