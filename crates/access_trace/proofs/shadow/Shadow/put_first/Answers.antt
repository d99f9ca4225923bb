-- One word, or one byte.
use Rattle.std.proofs.Common.{cond, sym, ap, ◌∙◌, arith}
use Rattle.access_trace.specs.Shadows.{mark_at}
use Rattle.access_trace.proofs.Places.{one_place, four_places}
use Rattle.access_trace.proofs.shadow.Shadow.put_first.Goals as goal

pub returns-then-count-ge4-clause-ok : goal.returns-then-count-ge4-clause-ok
returns-then-count-ge4-clause-ok g c a =
    c.in_ok-put_word.ensures.ok a
    ∙ ap (λ b. cond b c.args.mark (mark_at g.M.Memory.at c.args.self.now a)) (sym (four_places c.args.span.from a (omega arith) (omega arith)))

pub returns-clause-ok : goal.returns-clause-ok
returns-clause-ok g c a =
    c.in_ok-put_byte.ensures.ok a
    ∙ ap (λ b. cond b c.args.mark (mark_at g.M.Memory.at c.args.self.now a)) (sym (one_place c.args.span.from a (omega arith)))
