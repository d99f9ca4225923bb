use Rattle.tree_node.specs.Nodes.{owned}
use Rattle.page_leaves.specs.Paths.{leaf_below}
use Rattle.page_leaves.specs.Shown.{in_front}
use Rattle.page_leaves.proofs.Trees.{turned}
use Rattle.page_leaves.proofs.leaves.Leaves.turn.Goals as goal

pub returns-clause-same : goal.returns-clause-same
returns-clause-same c =
    turned (in_front c.args.self.now.front) (in_front c.exchange.new.self) (in_front c.args.self.now.aside) (in_front c.exchange.new.other) (leaf_below 4 (owned c.args.self.now.root)) c.args.number
    c.requires c.exchange.ensures.here c.exchange.ensures.there c.exchange.ensures.others c.exchange.ensures.others_there
