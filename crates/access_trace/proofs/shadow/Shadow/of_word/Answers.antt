-- All bytes of the span lie in its word.
use Rattle.std.proofs.Common.{◌≡◌, sym, ap, ◌∙◌, arith}
use Rattle.access_trace.specs.Shadows.{spelled, word_of, own_at}
use Rattle.access_trace.proofs.Places.{in_one_word}
use Rattle.access_trace.proofs.Marks.{as_whole, as_own}
use Rattle.access_trace.proofs.shadow.Shadow.of_word.Goals as goal

pub returns-then-mark-clause-own : goal.returns-then-mark-clause-own
returns-then-mark-clause-own g c = λ none a there.
    let at = g.M.Memory.at in
    let shadow = c.args.self.now in
    let near = c.requires in
    let same : word_of a ≡ word_of c.args.span.from = in_one_word c.args.span.count c.args.span.from a (omega arith) (omega (arith, near)) there in
    as_own (spelled (word_of a) (at shadow.whole)) (own_at at shadow a) (ap (λ w. spelled w (at shadow.whole)) same ∙ sym c.mark_in-mark.ensures ∙ c.if-mark.true)

pub returns-clause-marks : goal.returns-clause-marks
returns-clause-marks g c = λ a there.
    let at = g.M.Memory.at in
    let shadow = c.args.self.now in
    let near = c.requires in
    let same : word_of a ≡ word_of c.args.span.from = in_one_word c.args.span.count c.args.span.from a (omega arith) (omega (arith, near)) there in
    let here : spelled (word_of a) (at shadow.whole) ≡ c.mark_in-mark.result = ap (λ w. spelled w (at shadow.whole)) same ∙ sym c.mark_in-mark.ensures in
    as_whole (spelled (word_of a) (at shadow.whole)) (own_at at shadow a) (λ e. c.if-mark.false (sym here ∙ e)) ∙ here
