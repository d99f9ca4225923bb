use Rattle.page_leaves.proofs.path.+take.Given as goal

abbrev pub decreases-take : goal.decreases-take
decreases-take l = l.depth
