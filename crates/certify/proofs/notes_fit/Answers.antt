-- By the table's order.
use Rattle.std.proofs.Common.{◌≡◌, refl, Some, None, sym, ap, subst, arith, length}
use Rattle.std.specs.Prelude.{slice_get}
use Rattle.std.proofs.lemmas.Option.{slice_get_read}
use Rattle.dist_image.specs.Image.{Distilled}
use Rattle.cuts.specs.Words.{word_in}
use Rattle.certify.specs.Parts.{IsLeast}
use Rattle.certify.proofs.Firsts.{before_none, before_more, before_all, all_kept, first_unfit}
use Rattle.certify.proofs.notes_fit.Goals as goal

pub loop-number-init : goal.loop-number-init
loop-number-init c = before_none (λ j x. IsLeast (word_in c.args.p.now) c.args.image.now x None) c.args.image.now.notes

pub loop-number-preserved : goal.loop-number-preserved
loop-number-preserved c =
    let same = ap (λ (image : Distilled). image.notes) c.image.view_is in
    let x = c.index.result.now in
    let at = subst (λ xs. slice_get xs c.loop-number.number ≡ Some x) same (slice_get_read c.image.inside.notes.items (length c.image.inside.notes.items) c.loop-number.number x refl (omega arith) c.index.ensures) in
    before_more (λ j x. IsLeast (word_in c.args.p.now) c.args.image.now x None) c.args.image.now.notes c.loop-number.number x at
    (c.in_default.ensures (word_in c.args.p.now) (sym c.word_at.ensures)) c.loop-number.invariant

pub returns : goal.returns
returns c =
    let same = ap (λ (image : Distilled). length image.notes) c.image.view_is in
    all_kept (word_in c.args.p.now) c.args.image.now
    (before_all (λ j x. IsLeast (word_in c.args.p.now) c.args.image.now x None) c.args.image.now.notes c.loop-number.number (omega (arith, same)) c.loop-number.invariant)

pub returns-in-Some : goal.returns-in-Some
returns-in-Some c =
    let same = ap (λ (image : Distilled). image.notes) c.image.view_is in
    let x = c.index.result.now in
    let at = subst (λ xs. slice_get xs c.loop-number.number ≡ Some x) same (slice_get_read c.image.inside.notes.items (length c.image.inside.notes.items) c.loop-number.number x refl (omega arith) c.index.ensures) in
    first_unfit (word_in c.args.p.now) c.args.image.now c.requires c.loop-number.number c.in-Some.rule x at
    (c.in-Some.ensures (word_in c.args.p.now) (sym c.word_at.ensures)) c.loop-number.invariant
