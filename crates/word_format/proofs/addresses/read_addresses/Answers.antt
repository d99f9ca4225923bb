-- Each address is the next of those that are still read.
use Rattle.std.proofs.Common.{ℕ, ◌+◌, inr}
use Rattle.std.proofs.lemmas.Result.{err_from_is_err_and}
use Rattle.word_format.specs.Reading.{next_address, addresses_in}
use Rattle.word_format.proofs.Loop.{goes_on, fails, is_done}
use Rattle.word_format.proofs.addresses.read_addresses.Goals as goal

pub returns-in_err-address : goal.returns-in_err-address
returns-in_err-address c =
    let p = err_from_is_err_and c.from_residual.result c.from_residual.ensures.1 in
    rw (p.1, p.2) (fails {S = ℕ} next_address (λ _ a. a + 1) c.loop-number.addresses.items c.args.count c.loop-number.number c.loop-number.due c.loop-number.rest.now (addresses_in c.args.count c.args.bytes.now) c.loop-number.invariant c.in_err-address.field-0.0 c.loop-number-test.true (inr c.in_err-address.ensures))

pub loop-number-preserved : goal.loop-number-preserved
loop-number-preserved c =
    rw (c.in_ok-push.ensures.items, c.from-due.ensures) (goes_on {S = ℕ} next_address (λ _ a. a + 1) c.loop-number.addresses.items c.args.count c.loop-number.number c.loop-number.due c.loop-number.rest.now (addresses_in c.args.count c.args.bytes.now) c.loop-number.invariant c.in_ok-address.address c.in_ok-address.after.now c.loop-number-test.true c.in_ok-address.ensures)

pub returns : goal.returns
returns c = is_done {S = ℕ} next_address (λ _ a. a + 1) c.loop-number.addresses.items c.args.count c.loop-number.number c.loop-number.due c.loop-number.rest.now (addresses_in c.args.count c.args.bytes.now) c.loop-number.invariant c.loop-number-test.false
