-- The registers at the addresses so far.
use Rattle.std.proofs.Common.{take}
use Rattle.certify.specs.Ways.{AreMasks}
use Rattle.certify.proofs.masks.masks_of.Given as goal

abbrev pub invariant-loop-pc : goal.invariant-loop-pc
invariant-loop-pc l = AreMasks l.image (take l.pc-index l.pcs) l.all
