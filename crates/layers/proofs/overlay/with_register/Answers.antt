-- A mask with a bit more.
use Rattle.layers.proofs.Marks.{has-with_register}
use Rattle.layers.proofs.overlay.with_register.Goals as goal

pub returns : goal.returns
returns c j = has-with_register c.args.marks c.args.r j c.requires
