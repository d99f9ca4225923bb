-- The digits so far write `value`, and those that are left are read after it.
use Rattle.std.proofs.Common.{◌≡◌, ◌≤◌, drop}
use Rattle.decimal_words.specs.Number.{value_up_to}
use Rattle.decimal_words.proofs.Digits.{after_up_to}
use Rattle.decimal_words.proofs.number.value_up_to.Given as goal

abbrev pub invariant-loop-digit : goal.invariant-loop-digit
invariant-loop-digit l = record {
  rest : after_up_to l.most l.value (drop l.digit-index l.digits) ≡ value_up_to l.most l.digits;
  few : l.value ≤ l.most;
}
