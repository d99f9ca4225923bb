-- By running the definitions.
use Rattle.distill_exact.proofs.Worked.{assumed, rare, within}
use Rattle.distill_exact.proofs.rows_are_worked.Goals as goal

pub returns-clause-assumed : goal.returns-clause-assumed
returns-clause-assumed c = assumed

pub returns-clause-rare : goal.returns-clause-rare
returns-clause-rare c = rare

pub returns-clause-within : goal.returns-clause-within
returns-clause-within c = within
