-- A mask with four bits more.
use Rattle.layers.proofs.Marks.{has-with_four}
use Rattle.layers.proofs.line.with_four.Goals as goal

pub returns : goal.returns
returns c j = has-with_four c.args.mask c.args.i j c.requires
