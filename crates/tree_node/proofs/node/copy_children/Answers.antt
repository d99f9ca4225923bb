use Rattle.std.proofs.Common.{rules, arith}
use Rattle.std.proofs.lemmas.Grind.{common_steps}
use Rattle.tree_node.proofs.Zeros.{all_copied}
use Rattle.tree_node.proofs.node.copy_children.Goals as goal

pub returns : goal.returns
returns c = all_copied c.loop-i.to c.args.children.now c.loop-i.i (search rules) (grind (arith, common_steps)) c.loop-i.invariant.copied c.loop-i.invariant.left
