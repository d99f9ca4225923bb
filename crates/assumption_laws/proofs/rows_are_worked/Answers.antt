-- By running the definitions.
use Rattle.assumption_laws.proofs.Worked.{looks, late}
use Rattle.assumption_laws.proofs.rows_are_worked.Goals as goal

pub returns-clause-looks : goal.returns-clause-looks
returns-clause-looks c = looks

pub returns-clause-late : goal.returns-clause-late
returns-clause-late c = late
