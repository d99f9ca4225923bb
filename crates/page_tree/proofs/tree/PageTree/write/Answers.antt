use Rattle.std.proofs.Common.{rules, ◌≡◌, ◌/◌, is_some, false}
use Rattle.page_leaves.specs.Shown.{in_front}
use Rattle.page_tree.specs.Shown.{in_recent}
use Rattle.page_leaves.specs.Trees.{leaf_of}
use Rattle.page_tree.proofs.Kept.{kept_without}
use Rattle.page_tree.proofs.tree.PageTree.write.Goals as goal

pub invariant_of-self : goal.invariant_of-self
invariant_of-self c =
    let code : is_some (in_front c.args.self.now.code (c.args.a / 256)) ≡ false = search rules in
    let loaded : is_some (in_recent c.args.self.now.loaded (c.args.a / 256)) ≡ false = search rules in
    record {
      kept = kept_without (in_front c.args.self.now.code) (leaf_of c.args.self.now.leaves) (leaf_of c.write.new.self) (c.args.a / 256) c.args.self.now.kept code c.write.ensures.leaves;
      known = kept_without (in_recent c.args.self.now.loaded) (leaf_of c.args.self.now.leaves) (leaf_of c.write.new.self) (c.args.a / 256) c.args.self.now.known loaded c.write.ensures.leaves;
    }
