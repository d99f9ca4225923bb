use Rattle.std.proofs.Common.{◌∙◌}
use Rattle.tree_node.specs.Nodes.{owned}
use Rattle.page_leaves.specs.Paths.{leaf_below}
use Rattle.page_leaves.specs.Shown.{in_front}
use Rattle.page_leaves.proofs.Trees.{freed, free_all}
use Rattle.page_leaves.proofs.leaves.Leaves.put_back.Goals as goal

pub returns-clause-same : goal.returns-clause-same
returns-clause-same g c n =
    freed (in_front c.settle.new.self.aside) (in_front c.set.new.self) (leaf_below 4 (owned c.settle.new.self.root)) c.args.number c.occupant-other.result
    (λ m same ne. c.settle.ensures.aside m ∙ c.occupant-other.ensures.alone m same ne) c.in_ok-settle.ensures.settled
    (free_all (in_front c.set.new.self) c.args.number c.set.ensures.here c.set.ensures.away) c.set.ensures.others n
    ∙ c.settle.ensures.same n
