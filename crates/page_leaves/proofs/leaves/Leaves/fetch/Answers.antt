use Rattle.std.proofs.Common.{rules, ◌∙◌}
use Rattle.tree_node.specs.Nodes.{owned}
use Rattle.page_leaves.specs.Paths.{leaf_below}
use Rattle.page_leaves.specs.Shown.{in_front}
use Rattle.page_leaves.proofs.Trees.{fetched, stayed_behind}
use Rattle.page_leaves.proofs.leaves.Leaves.fetch.Goals as goal

pub returns-in_err-leaf-clause-same : goal.returns-in_err-leaf-clause-same
returns-in_err-leaf-clause-same g c n =
    stayed_behind (in_front c.turn.new.self.front) (in_front c.turn.new.self.aside) (leaf_below 4 (owned c.turn.new.self.root)) (leaf_below 4 (owned c.take.new.slot)) c.args.number c.take.ensures.others c.in_err-leaf.ensures.err n
    ∙ c.turn.ensures.same n
    ∙ search rules

pub returns-clause-same : goal.returns-clause-same
returns-clause-same g c n =
    fetched (in_front c.turn.new.self.front) (in_front c.set.new.self) (in_front c.turn.new.self.aside) (leaf_below 4 (owned c.turn.new.self.root)) (leaf_below 4 (owned c.take.new.slot)) c.args.number (owned c.in_ok-leaf.leaf)
    (search rules) (λ m e. search rules) c.in_ok-leaf.ensures.leaf c.take.ensures.others c.take.ensures.here c.set.ensures.here c.set.ensures.away c.set.ensures.others n
    ∙ c.turn.ensures.same n
    ∙ search rules
