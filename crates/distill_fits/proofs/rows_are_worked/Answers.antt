-- By running the definitions.
use Rattle.distill_fits.proofs.Worked.{twice}
use Rattle.distill_fits.proofs.rows_are_worked.Goals as goal

pub returns : goal.returns
returns c = twice
