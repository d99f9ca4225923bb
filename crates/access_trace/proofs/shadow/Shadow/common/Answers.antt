-- All bytes of the span lie in its word, which was marked as a whole or not.
use Rattle.std.proofs.Common.{◌≡◌, sym, ap, ◌∙◌, arith, Option, Some, None, IfSome}
use Rattle.access_trace.specs.Shadows.{spelled, word_of, own_at}
use Rattle.access_trace.proofs.Places.{in_one_word}
use Rattle.access_trace.proofs.Marks.{as_whole, as_own}
use Rattle.access_trace.proofs.shadow.Shadow.common.Goals as goal

if_some : {T : Type 0} {P Q : T → Type 0} (o : Option T) → IfSome o P → ((x : T) → P x → Q x) → IfSome o Q
if_some None h f = tt
if_some (Some x) h f = f x h

pub returns-clause-marks : goal.returns-clause-marks
returns-clause-marks g c a there =
    let at = g.M.Memory.at in
    let shadow = c.args.self.now in
    let same : word_of a ≡ word_of c.args.span.from = in_one_word c.args.span.count c.args.span.from a (omega arith) c.if-count-from.false there in
    let here : spelled (word_of a) (at shadow.whole) ≡ c.mark_in-mark.result = ap (λ w. spelled w (at shadow.whole)) same ∙ sym c.mark_in-mark.ensures in
    as_whole (spelled (word_of a) (at shadow.whole)) (own_at at shadow a) (λ e. c.if-mark.false (sym here ∙ e)) ∙ here

pub returns-then-mark-clause-marks : goal.returns-then-mark-clause-marks
returns-then-mark-clause-marks g c = if_some c.common_own.result c.common_own.ensures.marks (λ mark own a there.
    let at = g.M.Memory.at in
    let shadow = c.args.self.now in
    let same : word_of a ≡ word_of c.args.span.from = in_one_word c.args.span.count c.args.span.from a (omega arith) c.if-count-from.false there in
    as_own (spelled (word_of a) (at shadow.whole)) (own_at at shadow a) (ap (λ w. spelled w (at shadow.whole)) same ∙ sym c.mark_in-mark.ensures ∙ c.if-mark.true) ∙ own a there)

pub returns-then-mark-clause-found : goal.returns-then-mark-clause-found
returns-then-mark-clause-found g c mark some near alike = c.common_own.ensures.found mark some (λ a there.
    let at = g.M.Memory.at in
    let shadow = c.args.self.now in
    let same : word_of a ≡ word_of c.args.span.from = in_one_word c.args.span.count c.args.span.from a (omega arith) c.if-count-from.false there in
    sym (as_own (spelled (word_of a) (at shadow.whole)) (own_at at shadow a) (ap (λ w. spelled w (at shadow.whole)) same ∙ sym c.mark_in-mark.ensures ∙ c.if-mark.true)) ∙ alike a there)
