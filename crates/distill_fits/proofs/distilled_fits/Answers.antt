-- Rule by rule, over the analysed instructions.
use Rattle.distill_fits.proofs.Laws.{distilled_fits}
use Rattle.distill_fits.proofs.distilled_fits.Goals as goal

pub returns : goal.returns
returns c = distilled_fits
