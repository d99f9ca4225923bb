use Rattle.std.proofs.Common.{rules, arith}
use Rattle.std.proofs.lemmas.Grind.{common_steps}
use Rattle.page_leaves.proofs.Lists.{all_copied}
use Rattle.page_leaves.proofs.front.again.Goals as goal

pub returns : goal.returns
returns c = all_copied c.loop-i.copy c.args.leaves.now c.loop-i.i (search rules) (grind (arith, common_steps)) c.loop-i.invariant.copied c.loop-i.invariant.left
