-- The search is by the pcs of the anchors, which rise.
use Rattle.std.proofs.Common.{rules, ap, ◌∙◌}
use Rattle.std.specs.Prelude.{is_some}
use Rattle.std.proofs.lemmas.List.Sorted.{answers_always}
use Rattle.dist_image.specs.declared.image.Anchor.{Anchor}
use Rattle.dist_image.specs.Image.{Distilled}
use Rattle.dist_image.proofs.Search.{anchor_found, anchor_not_found}
use Rattle.slave.proofs.task.search.Goals as goal

pub returns-in-Ok : goal.returns-in-Ok
returns-in-Ok c =
    let same = c.deref.ensures.value ∙ ap (λ (image : Distilled). image.anchors) c.image.view_is in
    ap is_some
    (anchor_found c.args.image.now c.args.pc c.deref.result.now c.requires same c.in-Ok.place c.in-Ok.ensures.bound
    (c.in-Ok.ensures.position (λ (a : Anchor). a.pc) (answers_always _ _ _ (λ f a r g called. search rules))))

pub returns-in-Err : goal.returns-in-Err
returns-in-Err c =
    let same = c.deref.ensures.value ∙ ap (λ (image : Distilled). image.anchors) c.image.view_is in
    ap is_some
    (anchor_not_found c.args.image.now c.args.pc c.deref.result.now c.requires same c.in-Err.place c.in-Err.ensures.bound
    (c.in-Err.ensures.position (λ (a : Anchor). a.pc) (answers_always _ _ _ (λ f a r g called. search rules))))
