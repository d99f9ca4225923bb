-- The anchors so far keep the rule.
use Rattle.certify.proofs.Firsts.{AreForkedBefore}
use Rattle.certify.proofs.anchors_fit.Given as goal

abbrev pub invariant-loop-number : goal.invariant-loop-number
invariant-loop-number l = AreForkedBefore l.image l.number
