-- Kind by kind.
use Rattle.distill_fits.proofs.Laws.{claims_are_listed}
use Rattle.distill_fits.proofs.claims_are_listed.Goals as goal

pub returns : goal.returns
returns c = claims_are_listed
