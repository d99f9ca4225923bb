-- No task prints there.
use Rattle.std.proofs.Common.{[], ◌∷◌, subst, sym, ◌∙◌, cond}
use Rattle.rv_semantics.specs.Effect.{after}
use Rattle.certify.specs.Ways.{AreMasks}
use Rattle.certify.proofs.masks.behind_call.Goals as goal

pub returns-else-prints_at : goal.returns-else-prints_at
returns-else-prints_at c =
    subst (λ b. AreMasks c.args.image.now (cond b (after c.args.pc ∷ []) []) c.nothing.result) (sym c.if-prints_at.false ∙ c.prints_at.ensures) (c.nothing.ensures c.args.image.now)
