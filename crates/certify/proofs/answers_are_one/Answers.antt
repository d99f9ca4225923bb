-- The first is one.
use Rattle.certify.proofs.Fitted.{one}
use Rattle.certify.proofs.answers_are_one.Goals as goal

pub returns : goal.returns
returns c = one
