-- No targets are listed.
use Rattle.std.proofs.Common.{[], subst}
use Rattle.std.specs.Prelude.{unwrap_or}
use Rattle.certify.specs.Ways.{AreMasks}
use Rattle.certify.proofs.masks.behind_jump.Goals as goal

pub returns-in-None : goal.returns-in-None
returns-in-None c = subst (λ o. AreMasks c.args.image.now (unwrap_or o []) c.nothing.result) c.in-None.ensures (c.nothing.ensures c.args.image.now)
