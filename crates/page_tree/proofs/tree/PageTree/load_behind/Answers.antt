use Rattle.std.proofs.Common.{rules, ◌/◌, ◌≡◌, true, is_some, ◌∙◌}
use Rattle.page_tree.specs.Shown.{in_recent}
use Rattle.page_leaves.specs.Trees.{leaf_of}
use Rattle.page_leaves.proofs.Trees.{word_kept}
use Rattle.page_tree.proofs.tree.PageTree.load_behind.Goals as goal

pub returns-in-Some-clause-value : goal.returns-in-Some-clause-value
returns-in-Some-clause-value c =
    let some : is_some (in_recent c.args.self.now.loaded (c.args.a / 256)) ≡ true = search rules in
    c.in-Some.ensures.value ∙ word_kept (leaf_of c.args.self.now.leaves) c.args.a (in_recent c.args.self.now.loaded (c.args.a / 256)) (search rules) c.requires (λ i. c.args.self.now.known (c.args.a / 256) i some)
