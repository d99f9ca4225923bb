-- Step by step from the position itself.
use Rattle.assumption_laws.proofs.Spans.{steps_tell, span_is_told}
use Rattle.assumption_laws.proofs.steps_tell.Goals as goal

pub returns-clause-steps : goal.returns-clause-steps
returns-clause-steps c = steps_tell

pub returns-clause-span : goal.returns-clause-span
returns-clause-span c = span_is_told
