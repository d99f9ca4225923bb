use Rattle.std.proofs.Common.{rules}
use Rattle.page_leaves.specs.Trees.{held}
use Rattle.page_leaves.proofs.Trees.{two_spelt}
use Rattle.page_leaves.proofs.leaves.Leaves.half_across.Goals as goal

pub returns : goal.returns
returns c = two_spelt (held c.args.self.now) c.args.a c.spell_two.result _ _ (search rules) c.spell_two.ensures c.byte.ensures c.byte-2.ensures
