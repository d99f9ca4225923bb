-- By the version.
use Rattle.slave.proofs.Bounds.{small}
use Rattle.slave.proofs.tasks_are_small.Goals as goal

pub returns : goal.returns
returns c = small
