use Rattle.page_leaves.proofs.Lists.{none_at}
use Rattle.page_leaves.proofs.path.no_children.Goals as goal

pub returns : goal.returns
returns c i = none_at 64 i
