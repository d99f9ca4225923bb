use Rattle.std.proofs.Common.{rules}
use Rattle.page_leaves.specs.Trees.{held}
use Rattle.page_leaves.proofs.Trees.{four_spelt}
use Rattle.page_leaves.proofs.leaves.Leaves.word_across.Goals as goal

pub returns : goal.returns
returns c = four_spelt (held c.args.self.now) c.args.a c.spell_four.result _ _ _ _ (search rules) c.spell_four.ensures c.byte.ensures c.byte-2.ensures c.byte-3.ensures c.byte-4.ensures
