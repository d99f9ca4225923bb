-- By the laws on lists and on runs.
use Rattle.distill_exact.proofs.Images.{exactly}
use Rattle.distill_exact.proofs.images_are_exact.Goals as goal

pub returns : goal.returns
returns c = exactly
