-- By computing.
use Rattle.std.proofs.Common.{refl}
use Rattle.image_semantics.proofs.rows_are_worked.Goals as goal

pub returns-clause-turns : goal.returns-clause-turns
unfolding Rattle.speculation.specs.Engine.happens Rattle.image_semantics.specs.World.drive Rattle.image_semantics.specs.World.begin Rattle.rv_semantics.specs.Machine.moved Rattle.cells.specs.Seen.given_values
returns-clause-turns c = refl

pub returns-clause-met : goal.returns-clause-met
unfolding Rattle.speculation.specs.Engine.happens Rattle.image_semantics.specs.World.drive Rattle.image_semantics.specs.World.begin Rattle.rv_semantics.specs.Machine.moved Rattle.cells.specs.Seen.given_values
returns-clause-met c = refl

pub returns-clause-ended : goal.returns-clause-ended
unfolding Rattle.speculation.specs.Engine.happens Rattle.image_semantics.specs.World.drive Rattle.image_semantics.specs.World.begin Rattle.rv_semantics.specs.Machine.moved Rattle.cells.specs.Seen.given_values Rattle.rv_semantics.specs.Calls.call
returns-clause-ended c = refl

pub returns-clause-circle : goal.returns-clause-circle
unfolding Rattle.speculation.specs.Engine.happens Rattle.image_semantics.specs.World.drive Rattle.image_semantics.specs.World.begin Rattle.rv_semantics.specs.Machine.moved Rattle.cells.specs.Seen.given_values
returns-clause-circle c = refl

pub returns-clause-lost : goal.returns-clause-lost
unfolding Rattle.speculation.specs.Engine.happens Rattle.image_semantics.specs.World.drive Rattle.image_semantics.specs.World.begin Rattle.rv_semantics.specs.Machine.moved Rattle.cells.specs.Seen.given_values
returns-clause-lost c = refl

pub returns-clause-prints : goal.returns-clause-prints
unfolding Rattle.speculation.specs.Engine.happens Rattle.image_semantics.specs.World.drive Rattle.image_semantics.specs.World.begin Rattle.rv_semantics.specs.Machine.moved Rattle.cells.specs.Seen.given_values
returns-clause-prints c = refl

pub returns-clause-said : goal.returns-clause-said
unfolding Rattle.rv_semantics.specs.Machine.moved Rattle.cells.specs.Seen.given_values
returns-clause-said c = refl

pub returns-clause-master : goal.returns-clause-master
unfolding Rattle.speculation.specs.Engine.happens Rattle.image_semantics.specs.World.drive Rattle.image_semantics.specs.World.begin Rattle.rv_semantics.specs.Machine.moved Rattle.cells.specs.Seen.given_values
returns-clause-master c = record { short = refl; long = refl; unlisted = refl }

pub returns-clause-recorded : goal.returns-clause-recorded
unfolding Rattle.rv_semantics.specs.Machine.moved Rattle.cells.specs.Seen.given_values
returns-clause-recorded c = record {
  first = refl;
  last = refl;
  behind = refl;
  around = refl;
  registers = refl;
  long_byte = refl;
  long_register = refl;
  unlisted = refl;
  own = refl;
}
