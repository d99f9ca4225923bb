-- The image was read from the store as it was told at first.
use Rattle.std.proofs.Common.{◌≡◌, inr, Err, subst}
use Rattle.dist_image.specs.Reading.{image_from}
use Rattle.dist_image.specs.declared.error.ImageErr.{ImageErr}
use Rattle.answers.specs.declared.answer.Source.TheVariants as source
use Rattle.answers.specs.declared.answer.Refusal.TheVariants as refused
use Rattle.mssp_tool.specs.Files.{HasImage, image_limit}
use Rattle.mssp_tool.proofs.Ready.{not_accepted_within}
use Rattle.mssp_tool.proofs.certifying.subject_in.Goals as goal

pub returns-in-Err-clause-answer : goal.returns-in-Err-clause-answer
returns-in-Err-clause-answer g c =
    let has = c.in_ok-program.ensures.answer.1 in
    let first = c.program_in.ensures in
    inr (has.0, has.1, not_accepted_within (g.S.Store.told c.args.store.now) (g.S.Store.told c.program_in.new.store) (g.S.Store.faults c.args.store.now) (g.S.Store.faults c.program_in.new.store) (g.S.Store.faults c.image_in.new.store) (g.S.Store.failed c.image_in.new.store) c.args.image.now image_limit source.Image (λ bytes (e : ImageErr). image_from bytes ≡ Err e) refused.Image c.in-Err.answer first.files first.faults c.in-Err.ensures.answer)

pub returns-in-Ok-clause-answer : goal.returns-in-Ok-clause-answer
returns-in-Ok-clause-answer g c =
    (c.in-Ok.ensures.answer.0, c.in_ok-program.ensures.answer.1, subst (λ d. HasImage d c.args.image.now c.in-Ok.image) c.program_in.ensures.files c.in-Ok.ensures.answer.1)
