-- By computing.
use Rattle.std.proofs.Common.{refl}
use Rattle.adaptive_runs.proofs.Plans.{plan}
use Rattle.adaptive_runs.proofs.rows_are_worked.Goals as goal

pub returns-clause-plan : goal.returns-clause-plan
returns-clause-plan c = plan

pub returns-clause-due : goal.returns-clause-due
unfolding Rattle.adaptive_runs.specs.Adaptive.adapted Rattle.speculation.specs.Engine.happens Rattle.image_semantics.specs.World.drive Rattle.image_semantics.specs.World.begin Rattle.rv_semantics.specs.Machine.moved Rattle.cells.specs.Seen.given_values
returns-clause-due c = record { comes = refl; next = refl; early = refl }

pub returns-clause-serial : goal.returns-clause-serial
returns-clause-serial c = record { settled = refl; in_debt = refl; speculating = refl; inside = refl }

pub returns-clause-none : goal.returns-clause-none
unfolding Rattle.adaptive_runs.specs.Adaptive.adapted Rattle.speculation.specs.Engine.happens Rattle.image_semantics.specs.World.drive Rattle.image_semantics.specs.World.begin Rattle.rv_semantics.specs.Machine.moved Rattle.cells.specs.Seen.given_values
returns-clause-none c = record { image = refl; next = refl }
