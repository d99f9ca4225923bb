-- What is laid over a state is what the definition applies.
use Rattle.slave.proofs.Keeps.{laid_is}
use Rattle.slave.proofs.commits.Goals as goal

pub returns-clause-applied : goal.returns-clause-applied
returns-clause-applied c = laid_is
