-- Each row is the next of those that are still read.
use Rattle.std.proofs.Common.{ℕ, ◌+◌}
use Rattle.std.proofs.lemmas.Result.{err_from_is_err_and}
use Rattle.load_values.specs.Reading.{next_row, rows_in}
use Rattle.word_format.proofs.Loop.{goes_on, fails, is_done}
use Rattle.load_values.proofs.reading.read_rows.Goals as goal

pub returns-in_err-row : goal.returns-in_err-row
returns-in_err-row c =
    let p = err_from_is_err_and c.from_residual.result c.from_residual.ensures.1 in
    rw (p.1, p.2) (fails {S = ℕ} next_row (λ _ e. e.0 + 1) c.loop-number.rows.items c.args.count c.loop-number.number c.loop-number.due c.loop-number.rest.now (rows_in c.args.count c.args.bytes.now) c.loop-number.invariant c.in_err-row.field-0.0 c.loop-number-test.true c.in_err-row.ensures)

pub loop-number-preserved : goal.loop-number-preserved
loop-number-preserved c =
    rw (c.in_ok-push.ensures.items, c.from-due.ensures) (goes_on {S = ℕ} next_row (λ _ e. e.0 + 1) c.loop-number.rows.items c.args.count c.loop-number.number c.loop-number.due c.loop-number.rest.now (rows_in c.args.count c.args.bytes.now) c.loop-number.invariant c.in_ok-row.row c.in_ok-row.after.now c.loop-number-test.true c.in_ok-row.ensures)

pub returns : goal.returns
returns c = is_done {S = ℕ} next_row (λ _ e. e.0 + 1) c.loop-number.rows.items c.args.count c.loop-number.number c.loop-number.due c.loop-number.rest.now (rows_in c.args.count c.args.bytes.now) c.loop-number.invariant c.loop-number-test.false
