-- Each slot is the next of those that are still read.
use Rattle.std.proofs.Common.{ℕ}
use Rattle.std.proofs.lemmas.Result.{err_from_is_err_and}
use Rattle.dist_image.specs.Reading.{next_slot, slots_in}
use Rattle.word_format.proofs.Loop.{goes_on, fails, is_done}
use Rattle.dist_image.proofs.reading.read_slots.Goals as goal

pub returns-in_err-slot : goal.returns-in_err-slot
returns-in_err-slot c =
    let p = err_from_is_err_and c.from_residual.result c.from_residual.ensures.1 in
    rw (p.1, p.2) (fails {S = ℕ} (λ i _ rest. next_slot c.args.anchors i rest) (λ seen _. seen) c.loop-number.slots.items c.args.count c.loop-number.number 0 c.loop-number.rest.now (slots_in c.args.anchors c.args.count c.args.bytes.now) c.loop-number.invariant c.in_err-slot.field-0.0 c.loop-number-test.true c.in_err-slot.ensures)

pub loop-number-preserved : goal.loop-number-preserved
loop-number-preserved c =
    rw c.in_ok-push.ensures.items (goes_on {S = ℕ} (λ i _ rest. next_slot c.args.anchors i rest) (λ seen _. seen) c.loop-number.slots.items c.args.count c.loop-number.number 0 c.loop-number.rest.now (slots_in c.args.anchors c.args.count c.args.bytes.now) c.loop-number.invariant c.in_ok-slot.slot c.in_ok-slot.after.now c.loop-number-test.true c.in_ok-slot.ensures)

pub returns : goal.returns
returns c = is_done {S = ℕ} (λ i _ rest. next_slot c.args.anchors i rest) (λ seen _. seen) c.loop-number.slots.items c.args.count c.loop-number.number 0 c.loop-number.rest.now (slots_in c.args.anchors c.args.count c.args.bytes.now) c.loop-number.invariant c.loop-number-test.false
