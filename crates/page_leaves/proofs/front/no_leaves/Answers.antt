use Rattle.page_leaves.proofs.Lists.{none_at}
use Rattle.page_leaves.proofs.front.no_leaves.Goals as goal

pub returns : goal.returns
returns c i = none_at 16 i
