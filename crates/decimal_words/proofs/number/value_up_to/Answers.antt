-- The digit that makes the number too large leaves none.
use Rattle.std.proofs.Common.{◌∙◌, sym, arith, rules}
use Rattle.decimal_words.proofs.Digits.{past_at}
use Rattle.decimal_words.proofs.number.value_up_to.Goals as goal

pub returns-in_err-checked_mul : goal.returns-in_err-checked_mul
returns-in_err-checked_mul c =
    c.from_residual.ensures
    ∙ sym (past_at c.args.most c.loop-digit.value c.loop-digit.digit-index c.args.digits.now c.loop-digit-test.true (search rules) (omega arith)) ∙ c.loop-digit.invariant.rest

pub returns-in_err-value : goal.returns-in_err-value
returns-in_err-value c =
    c.from_residual-in_err-value.ensures
    ∙ sym (past_at c.args.most c.loop-digit.value c.loop-digit.digit-index c.args.digits.now c.loop-digit-test.true (search rules) (omega arith)) ∙ c.loop-digit.invariant.rest

pub returns-then-value-most : goal.returns-then-value-most
returns-then-value-most c =
    sym (past_at c.args.most c.loop-digit.value c.loop-digit.digit-index c.args.digits.now c.loop-digit-test.true (search rules) (omega arith)) ∙ c.loop-digit.invariant.rest
