-- The rules together are fitting.
use Rattle.certify.proofs.Fitted.{rules}
use Rattle.certify.proofs.rules_are_fitting.Goals as goal

pub returns : goal.returns
returns c = rules
