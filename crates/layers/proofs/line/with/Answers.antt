-- A mask with a bit more.
use Rattle.layers.proofs.Marks.{has-with}
use Rattle.layers.proofs.line.with.Goals as goal

pub returns : goal.returns
returns c j = has-with c.args.mask c.args.i j c.requires
