-- Table by table.
use Rattle.distill_valid.proofs.Laws.{distilled_is_image}
use Rattle.distill_valid.proofs.distilled_is_image.Goals as goal

pub returns : goal.returns
returns c = distilled_is_image
