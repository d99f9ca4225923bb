-- By the first of the list whose test says that it fails.
use Rattle.assumption_laws.proofs.Verdicts.{verdict_is_told}
use Rattle.assumption_laws.proofs.verdict_is_told.Goals as goal

pub returns : goal.returns
returns c = verdict_is_told
