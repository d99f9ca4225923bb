-- By the table's order.
use Rattle.std.proofs.Common.{◌≡◌, refl, Some, true≢false, sym, ap, subst, ◌∙◌, arith, length}
use Rattle.std.specs.Prelude.{slice_get}
use Rattle.std.proofs.lemmas.Option.{slice_get_read}
use Rattle.dist_image.specs.Image.{Distilled}
use Rattle.certify.specs.Answers.{IsForked}
use Rattle.certify.proofs.Firsts.{before_none, before_more, before_all, all_forked, first_unforked}
use Rattle.certify.proofs.anchors_fit.Goals as goal

pub loop-number-init : goal.loop-number-init
loop-number-init c = before_none (IsForked c.args.image.now) c.args.image.now.anchors

pub loop-number-preserved : goal.loop-number-preserved
loop-number-preserved c =
    let same = ap (λ (image : Distilled). image.anchors) c.image.view_is in
    let a = c.index.result.now in
    let at = subst (λ xs. slice_get xs c.loop-number.number ≡ Some a) same (slice_get_read c.image.inside.anchors.items (length c.image.inside.anchors.items) c.loop-number.number a refl (omega arith) c.index.ensures) in
    before_more (IsForked c.args.image.now) c.args.image.now.anchors c.loop-number.number a at (c.is_forked.ensures.0 c.if-not-is_forked.false) c.loop-number.invariant

pub returns : goal.returns
returns c = λ word.
    let same = ap (λ (image : Distilled). length image.anchors) c.image.view_is in
    all_forked word c.args.image.now (before_all (IsForked c.args.image.now) c.args.image.now.anchors c.loop-number.number (omega (arith, same)) c.loop-number.invariant)

pub returns-then-not-is_forked : goal.returns-then-not-is_forked
returns-then-not-is_forked c = λ word.
    let same = ap (λ (image : Distilled). image.anchors) c.image.view_is in
    let a = c.index.result.now in
    let at = subst (λ xs. slice_get xs c.loop-number.number ≡ Some a) same (slice_get_read c.image.inside.anchors.items (length c.image.inside.anchors.items) c.loop-number.number a refl (omega arith) c.index.ensures) in
    first_unforked word c.args.image.now c.requires c.loop-number.number a at (λ h. true≢false (sym (c.is_forked.ensures.1 h) ∙ c.if-not-is_forked.true)) c.loop-number.invariant
