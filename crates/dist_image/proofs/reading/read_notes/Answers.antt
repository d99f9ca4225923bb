-- Each note is the next of those that are still read.
use Rattle.std.proofs.Common.{ℕ, ◌+◌}
use Rattle.std.proofs.lemmas.Result.{err_from_is_err_and}
use Rattle.dist_image.specs.declared.image.Note.{Note}
use Rattle.dist_image.specs.Reading.{next_note, notes_in}
use Rattle.word_format.proofs.Loop.{goes_on, fails, is_done}
use Rattle.dist_image.proofs.reading.read_notes.Goals as goal

pub returns-in_err-note : goal.returns-in_err-note
returns-in_err-note c =
    let p = err_from_is_err_and c.from_residual.result c.from_residual.ensures.1 in
    rw (p.1, p.2) (fails {S = ℕ} (next_note c.args.slots) (λ _ (n : Note). n.pc + 1) c.loop-number.notes.items c.args.count c.loop-number.number c.loop-number.due c.loop-number.rest.now (notes_in c.args.slots c.args.count c.args.bytes.now) c.loop-number.invariant c.in_err-note.field-0.0 c.loop-number-test.true c.in_err-note.ensures)

pub loop-number-preserved : goal.loop-number-preserved
loop-number-preserved c =
    rw (c.in_ok-push.ensures.items, c.from-due.ensures) (goes_on {S = ℕ} (next_note c.args.slots) (λ _ (n : Note). n.pc + 1) c.loop-number.notes.items c.args.count c.loop-number.number c.loop-number.due c.loop-number.rest.now (notes_in c.args.slots c.args.count c.args.bytes.now) c.loop-number.invariant c.in_ok-note.note c.in_ok-note.after.now c.loop-number-test.true c.in_ok-note.ensures)

pub returns : goal.returns
returns c = is_done {S = ℕ} (next_note c.args.slots) (λ _ (n : Note). n.pc + 1) c.loop-number.notes.items c.args.count c.loop-number.number c.loop-number.due c.loop-number.rest.now (notes_in c.args.slots c.args.count c.args.bytes.now) c.loop-number.invariant c.loop-number-test.false
