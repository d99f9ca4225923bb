use Rattle.std.proofs.Common.{arith, refl, ◌/◌, ◌∙◌}
use Rattle.std.proofs.lemmas.Result.{on_ok_weaker}
use Rattle.cells.specs.Bytes.{after_puts}
use Rattle.memory.proofs.Puts.{put_more}
use Rattle.page_leaves.specs.Shown.{in_front}
use Rattle.page_tree.specs.Shown.{in_recent}
use Rattle.page_leaves.specs.Trees.{held, leaf_of}
use Rattle.page_tree.proofs.Kept.{kept_both}
use Rattle.page_tree.proofs.tree.PageTree.put_two.Goals as goal

pub invariant_of-self : goal.invariant_of-self
invariant_of-self g c = record {
  kept = kept_both (in_front c.args.self.now.code) (in_front c.forget.new.self) (in_front c.forget-2.new.self) (leaf_of c.args.self.now.leaves) (leaf_of c.put_two.new.self) (c.args.a / 256) _
      c.args.self.now.kept c.forget.ensures c.forget-2.ensures c.put_two.ensures.leaves;
  known = kept_both (in_recent c.args.self.now.loaded) (in_recent c.forget-3.new.self) (in_recent c.forget-4.new.self) (leaf_of c.args.self.now.leaves) (leaf_of c.put_two.new.self) (c.args.a / 256) _
      c.args.self.now.known c.forget-3.ensures c.forget-4.ensures c.put_two.ensures.leaves;
}

pub returns-clause-ok : goal.returns-clause-ok
returns-clause-ok g c = on_ok_weaker c.put_two.result
    (λ is. is ∙ put_more (held c.args.self.now.leaves) (after_puts (held c.args.self.now.leaves) c.args.a c.split_at.result.0.now) _ c.args.a _ _ c.args.bytes.now c.split_at.result.0.now c.split_at.result.1.now
    c.split_at.ensures.front c.split_at.ensures.back (omega (arith, c.split_at.ensures.front_len)) refl refl)
    c.put_two.ensures.ok
