-- Each word gives masks of 32 registers.
use Rattle.liveness.proofs.Fit.{all_fit}
use Rattle.liveness.proofs.points_are_fit.Goals as goal

pub returns : goal.returns
returns c = all_fit
