-- The search is by the addresses of the notes, which rise.
use Rattle.std.proofs.Common.{rules, ap, ◌∙◌}
use Rattle.std.proofs.lemmas.List.Sorted.{answers_always}
use Rattle.dist_image.specs.declared.image.Note.{Note}
use Rattle.dist_image.specs.Image.{Distilled}
use Rattle.certify.proofs.Noted.{note_found, note_absent}
use Rattle.certify.proofs.masks.note_at.Goals as goal

pub returns-in-Ok : goal.returns-in-Ok
returns-in-Ok c =
    let same = c.as_slice-notes.ensures.value ∙ ap (λ (image : Distilled). image.notes) c.image.view_is in
    note_found c.args.image.now c.args.pc c.as_slice-notes.result.now c.requires same c.in-Ok.place c.in-Ok.ensures.bound
    (c.in-Ok.ensures.position (λ (n : Note). n.pc) (answers_always _ _ _ (λ f a r g called. search rules)))

pub returns-in-Err : goal.returns-in-Err
returns-in-Err c =
    let same = c.as_slice-notes.ensures.value ∙ ap (λ (image : Distilled). image.notes) c.image.view_is in
    note_absent c.args.image.now c.args.pc c.as_slice-notes.result.now c.requires same c.in-Err.field-0 c.in-Err.ensures.bound
    (c.in-Err.ensures.position (λ (n : Note). n.pc) (answers_always _ _ _ (λ f a r g called. search rules)))
