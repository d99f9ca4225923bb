-- By the row of each pc.
use Rattle.distill_exact.proofs.Exact.{distills_exactly}
use Rattle.distill_exact.proofs.distilling_is_exact.Goals as goal

pub returns : goal.returns
returns c = distills_exactly
