-- The tests in their order.
use Rattle.std.proofs.Common.{true≢false, ap, sym, subst, ◌∙◌}
use Rattle.rv_word.specs.Meaning.{meaning}
use Rattle.certify.specs.Ways.{IsWay}
use Rattle.certify.proofs.Least.{is_lost, not_allowed, not_aimed, not_live, not_needed, all_kept}
use Rattle.certify.proofs.rules.broken_rule.Goals as goal

pub returns-then-is_lost : goal.returns-then-is_lost
returns-then-is_lost c = λ word e.
    is_lost word c.args.image.now c.args.note.now (subst (IsWay word c.args.image.now c.args.note.now) (c.is_lost.ensures.0 c.if-is_lost.true) (c.way_of-way.ensures word e))

pub returns-then-not-is_allowed : goal.returns-then-not-is_allowed
returns-then-not-is_allowed c = λ word e.
    not_allowed word c.args.image.now c.args.note.now c.decode-i.result (c.decode-i.ensures.means ∙ ap meaning (sym e)) c.way_of-way.result (c.way_of-way.ensures word e)
    (λ lost. true≢false (sym (c.is_lost.ensures.1 lost) ∙ c.if-is_lost.false))
    (λ h. true≢false (sym (c.is_allowed.ensures.1 h) ∙ c.if-not-is_allowed.true))

pub returns-then-not-is_aimed : goal.returns-then-not-is_aimed
returns-then-not-is_aimed c = λ word e.
    not_aimed word c.args.image.now c.args.note.now c.decode-i.result (c.decode-i.ensures.means ∙ ap meaning (sym e)) c.way_of-way.result (c.way_of-way.ensures word e)
    (λ lost. true≢false (sym (c.is_lost.ensures.1 lost) ∙ c.if-is_lost.false))
    (c.is_allowed.ensures.0 c.if-not-is_allowed.false)
    (λ h. true≢false (sym (c.is_aimed.ensures.1 h) ∙ c.if-not-is_aimed.true))

pub returns-then-not-live_fits : goal.returns-then-not-live_fits
returns-then-not-live_fits c = λ word e.
    not_live word c.args.image.now c.args.note.now c.decode-i.result (c.decode-i.ensures.means ∙ ap meaning (sym e)) c.way_of-way.result (c.way_of-way.ensures word e)
    (λ lost. true≢false (sym (c.is_lost.ensures.1 lost) ∙ c.if-is_lost.false))
    (c.is_allowed.ensures.0 c.if-not-is_allowed.false) (c.is_aimed.ensures.0 c.if-not-is_aimed.false)
    c.used_by-used.result.reads c.used_by-used.result.writes c.masks_behind-behind.result c.used_by-used.ensures.reads c.used_by-used.ensures.writes c.masks_behind-behind.ensures
    (λ h. true≢false (sym (c.live_fits.ensures.1 h) ∙ c.if-not-live_fits.true))

pub returns-then-not-need_fits : goal.returns-then-not-need_fits
returns-then-not-need_fits c = λ word e.
    not_needed word c.args.image.now c.args.note.now c.decode-i.result (c.decode-i.ensures.means ∙ ap meaning (sym e)) c.way_of-way.result (c.way_of-way.ensures word e)
    (λ lost. true≢false (sym (c.is_lost.ensures.1 lost) ∙ c.if-is_lost.false))
    (c.is_allowed.ensures.0 c.if-not-is_allowed.false) (c.is_aimed.ensures.0 c.if-not-is_aimed.false)
    c.used_by-used.result.reads c.used_by-used.result.writes c.masks_behind-behind.result c.used_by-used.ensures.reads c.used_by-used.ensures.writes c.masks_behind-behind.ensures
    (c.live_fits.ensures.0 c.if-not-live_fits.false)
    (λ h. true≢false (sym (c.need_fits.ensures.1 h) ∙ c.if-not-need_fits.true))

pub returns : goal.returns
returns c = λ word e.
    all_kept word c.args.image.now c.args.note.now c.decode-i.result (c.decode-i.ensures.means ∙ ap meaning (sym e)) c.way_of-way.result (c.way_of-way.ensures word e)
    (λ lost. true≢false (sym (c.is_lost.ensures.1 lost) ∙ c.if-is_lost.false))
    (c.is_allowed.ensures.0 c.if-not-is_allowed.false) (c.is_aimed.ensures.0 c.if-not-is_aimed.false)
    c.used_by-used.result.reads c.used_by-used.result.writes c.masks_behind-behind.result c.used_by-used.ensures.reads c.used_by-used.ensures.writes c.masks_behind-behind.ensures
    (c.live_fits.ensures.0 c.if-not-live_fits.false)
    (c.need_fits.ensures.0 c.if-not-need_fits.false)
