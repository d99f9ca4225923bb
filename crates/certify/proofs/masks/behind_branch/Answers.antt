-- Both sides.
use Rattle.std.proofs.Common.{[], ◌∷◌, subst, sym}
use Rattle.fitting.specs.Claims.{sides}
use Rattle.certify.specs.Ways.{AreMasks}
use Rattle.certify.proofs.masks.behind_branch.Goals as goal

pub returns-in-None : goal.returns-in-None
returns-in-None c =
    subst (λ o. AreMasks c.args.image.now (sides o c.args.fallen c.args.taken) c.joined.result) (sym c.in-None.is)
    (c.joined.ensures c.args.image.now (c.args.fallen ∷ []) (c.args.taken ∷ []) c.masks_at.ensures.masks c.masks_at-in-None.ensures.masks)
