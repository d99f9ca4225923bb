-- The note at the place is the one of the address.
use Rattle.std.proofs.Common.{sym, ap, ◌∙◌}
use Rattle.std.proofs.lemmas.Bool.{ltb-true}
use Rattle.dist_image.specs.Image.{Distilled}
use Rattle.master.proofs.Notes.{slot_there}
use Rattle.master.proofs.places.slot_there.Goals as goal

pub returns-in-Some : goal.returns-in-Some
returns-in-Some c =
    let notes = c.deref.result.now in
    let same = c.deref.ensures.value ∙ ap (λ (image : Distilled). image.notes) c.image.view_is in
    slot_there c.args.image.now notes c.args.place c.args.pc c.in-Some.note.now c.requires same (ltb-true _ _ (sym c.in-Some.ensures.lookup.0)) c.in-Some.ensures.lookup.1 c.if-note-pc.true
