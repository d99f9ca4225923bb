-- Pcs rise.
use Rattle.image_semantics.proofs.Found.{found}
use Rattle.image_semantics.proofs.anchors_are_found.Goals as goal

pub returns : goal.returns
returns c = found
