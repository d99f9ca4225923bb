-- What is behind it is what the table says there.
use Rattle.std.proofs.Common.{ap, subst, ◌∙◌}
use Rattle.std.specs.List.Sorted.{IsStrictlyIncreasing}
use Rattle.std.proofs.lemmas.List.{get_or_default}
use Rattle.distill_rules.specs.Rounds.{Point, mask_by}
use Rattle.liveness.specs.Waiting.{no_point, mask_at}
use Rattle.liveness.specs.Behind.{behind_at}
use Rattle.liveness.proofs.Looking.{looked}
use Rattle.liveness.proofs.waiting.look_behind.Goals as goal

pub returns : goal.returns
returns c =
    let ps = c.args.parts.now in
    let up = subst IsStrictlyIncreasing c.requires.pcs c.requires.rises in
    let part = c.index-parts-i.is ∙ get_or_default ps c.args.i c.index-parts-i.result no_point c.requires.inside in
    c.mask.ensures
    ∙ ap (λ (p : Point). mask_by p (behind_at c.args.behind.now c.args.i).live (behind_at c.args.behind.now c.args.i).need (mask_at c.args.table.now c.args.i).live) part
    ∙ looked ps c.args.table.now c.args.behind.now up c.requires.pcs c.requires.behind c.args.i c.requires.inside
