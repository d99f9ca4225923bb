-- No premise is left.
use Rattle.small_images.proofs.CaseExit.{met, safe}
use Rattle.small_images.proofs.exit_is_safe.Goals as goal

pub returns-clause-met : goal.returns-clause-met
returns-clause-met c = met

pub returns-clause-safe : goal.returns-clause-safe
returns-clause-safe c = safe
