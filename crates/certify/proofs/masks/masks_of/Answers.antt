-- One address more.
use Rattle.std.proofs.Common.{[], ◌∷◌, take, get_or, subst, sym}
use Rattle.std.proofs.lemmas.List.{take_more}
use Rattle.certify.specs.Ways.{AreMasks}
use Rattle.certify.proofs.masks.masks_of.Goals as goal

pub loop-pc-init : goal.loop-pc-init
loop-pc-init c = c.nothing-all.ensures c.args.image.now

pub loop-pc-preserved : goal.loop-pc-preserved
loop-pc-preserved c =
    let i = c.loop-pc.pc-index in
    let pcs = c.args.pcs.now in
    subst (λ ps. AreMasks c.args.image.now ps c.joined-all.result) (sym (take_more pcs i 0 c.loop-pc-test.true))
    (c.joined-all.ensures c.args.image.now (take i pcs) (get_or pcs i 0 ∷ []) c.loop-pc.invariant c.masks_at.ensures.masks)
