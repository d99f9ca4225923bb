-- The notes so far keep their rules.
use Rattle.cuts.specs.Words.{word_in}
use Rattle.certify.proofs.Firsts.{AreKeptBefore}
use Rattle.certify.proofs.notes_fit.Given as goal

abbrev pub invariant-loop-number : goal.invariant-loop-number
invariant-loop-number l = AreKeptBefore (word_in l.p) l.image l.number
