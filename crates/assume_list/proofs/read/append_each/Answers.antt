-- One mark more.
use Rattle.std.proofs.Common.{ap, ◌∙◌, refl, ◌+◌, ◌++◌, ◌∷◌, []}
use Rattle.fitting.specs.Claims.{among}
use Rattle.access_trace.specs.Shadows.{mark_at}
use Rattle.assume_list.proofs.Marks.{one_more, none_adds}
use Rattle.assume_list.proofs.read.append_each.Goals as goal

pub loop-i-init : goal.loop-i-init
loop-i-init g c = λ at. none_adds (mark_at g.M.Memory.at c.args.shadow.now) c.args.to.now.items 0 c.args.span.from (at + 1) refl

pub loop-i-preserved : goal.loop-i-preserved
loop-i-preserved g c = λ at.
    c.in_ok-append_one.ensures at
    ∙ ap (λ mark. among (c.loop-i.to.items ++ mark ∷ []) (at + 1)) c.get.ensures
    ∙ one_more (mark_at g.M.Memory.at c.args.shadow.now) c.args.to.now.items c.loop-i.to.items c.loop-i.i c.args.span.from (at + 1) (c.loop-i.invariant at)
