-- By what waits at each position.
use Rattle.assumption_laws.proofs.Waits.{waits_tell}
use Rattle.assumption_laws.proofs.waits_tell.Goals as goal

pub returns : goal.returns
returns c = waits_tell
