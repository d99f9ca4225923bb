use Rattle.page_leaves.proofs.path.+place.Given as goal

abbrev pub decreases-place : goal.decreases-place
decreases-place g l = l.depth
