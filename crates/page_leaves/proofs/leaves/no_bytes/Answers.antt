use Rattle.page_leaves.proofs.Lists.{zero_at}
use Rattle.page_leaves.proofs.leaves.no_bytes.Goals as goal

pub returns : goal.returns
returns c i = zero_at 256 i
