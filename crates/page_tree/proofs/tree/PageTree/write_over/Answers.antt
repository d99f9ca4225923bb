use Rattle.std.proofs.Common.{rules, arith, ◌/◌, refl, ◌∙◌}
use Rattle.std.proofs.lemmas.Bool.{OnTrue_from, OnTrue_at}
use Rattle.cells.specs.Bytes.{after_puts}
use Rattle.memory.proofs.Puts.{put_more}
use Rattle.page_leaves.specs.Shown.{in_front}
use Rattle.page_tree.specs.Shown.{in_recent}
use Rattle.page_leaves.specs.Trees.{held, leaf_of}
use Rattle.page_tree.proofs.Kept.{kept_without_both}
use Rattle.page_tree.proofs.tree.PageTree.write_over.Goals as goal

pub invariant_of-self : goal.invariant_of-self
invariant_of-self c = record {
  kept = kept_without_both (in_front c.args.self.now.code) (leaf_of c.args.self.now.leaves) (leaf_of c.write_both.new.self) (c.args.a / 256) _ c.args.self.now.kept (search rules) (search rules) c.write_both.ensures.leaves;
  known = kept_without_both (in_recent c.args.self.now.loaded) (leaf_of c.args.self.now.leaves) (leaf_of c.write_both.new.self) (c.args.a / 256) _ c.args.self.now.known (search rules) (search rules) c.write_both.ensures.leaves;
}

pub returns-then-not-has-4-clause-written : goal.returns-then-not-has-4-clause-written
returns-then-not-has-4-clause-written c = OnTrue_from c.write_both.result _ (λ e. OnTrue_at e c.write_both.ensures.written
    ∙ put_more (held c.args.self.now.leaves) (after_puts (held c.args.self.now.leaves) c.args.a c.split_at.result.0.now) _ c.args.a _ _ c.args.bytes.now c.split_at.result.0.now c.split_at.result.1.now
    c.split_at.ensures.front c.split_at.ensures.back (omega (arith, c.split_at.ensures.front_len)) refl refl)
