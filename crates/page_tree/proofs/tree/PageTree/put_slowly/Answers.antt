use Rattle.std.proofs.Common.{◌/◌}
use Rattle.page_leaves.specs.Shown.{in_front}
use Rattle.page_tree.specs.Shown.{in_recent}
use Rattle.page_leaves.specs.Trees.{leaf_of}
use Rattle.page_tree.proofs.Kept.{kept_by}
use Rattle.page_tree.proofs.tree.PageTree.put_slowly.Goals as goal

pub invariant_of-self : goal.invariant_of-self
invariant_of-self g c = record {
  kept = kept_by (in_front c.args.self.now.code) (in_front c.forget.new.self) (leaf_of c.args.self.now.leaves) (leaf_of c.put_leaf.new.self) (c.args.a / 256)
      c.args.self.now.kept c.forget.ensures c.put_leaf.ensures.leaves;
  known = kept_by (in_recent c.args.self.now.loaded) (in_recent c.forget-then-bytes-room.new.self) (leaf_of c.args.self.now.leaves) (leaf_of c.put_leaf.new.self) (c.args.a / 256)
      c.args.self.now.known c.forget-then-bytes-room.ensures c.put_leaf.ensures.leaves;
}
