-- No premise is left.
use Rattle.small_images.proofs.CasePrints.{met, safe, prints}
use Rattle.small_images.proofs.printing_is_safe.Goals as goal

pub returns-clause-met : goal.returns-clause-met
returns-clause-met c = met

pub returns-clause-safe : goal.returns-clause-safe
returns-clause-safe c = safe

pub returns-clause-prints : goal.returns-clause-prints
returns-clause-prints c = prints
