-- By the tests of each kind.
use Rattle.assumption_laws.proofs.Tests.{looks_tell}
use Rattle.assumption_laws.proofs.looks_tell.Goals as goal

pub returns : goal.returns
returns c = looks_tell
