-- The three parts are all rules.
use Rattle.std.proofs.Common.{◌||◌}
use Rattle.cuts.specs.Words.{word_in}
use Rattle.certify.specs.Parts.{on_list, on_anchors, on_notes}
use Rattle.certify.proofs.Earlier.{whole}
use Rattle.certify.proofs.certify.Goals as goal

pub returns : goal.returns
returns c =
    let word = word_in c.args.p.now in
    let image = c.args.image.now in
    whole word image c.earlier-2.result
    (c.earlier-2.ensures word image (λ rule. on_list rule || on_anchors rule) on_notes
    (c.earlier.ensures word image on_list on_anchors (c.list_fits-whole.ensures word) (c.anchors_fit-anchors.ensures word)) c.notes_fit-notes.ensures)
