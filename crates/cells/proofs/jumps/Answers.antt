-- The three parts of the law.
use Rattle.cells.proofs.Law.{jump, quiet_too, same_said}
use Rattle.cells.proofs.jumps.Goals as goal

pub returns-clause-state : goal.returns-clause-state
returns-clause-state c = jump

pub returns-clause-quiet : goal.returns-clause-quiet
returns-clause-quiet c = quiet_too

pub returns-clause-output : goal.returns-clause-output
returns-clause-output c = same_said
