-- Marks that are alike add one.
use Rattle.std.proofs.Common.{◌+◌, ◌∙◌}
use Rattle.std.proofs.lemmas.Result.{on_ok_weaker}
use Rattle.access_trace.specs.Shadows.{mark_at}
use Rattle.assume_list.proofs.Marks.{none_adds, one_adds}
use Rattle.assume_list.proofs.read.append.Goals as goal

pub returns-then-span-eq0 : goal.returns-then-span-eq0
returns-then-span-eq0 g c = λ at. none_adds (mark_at g.M.Memory.at c.args.shadow.now) c.args.to.now.items c.args.span.count c.args.span.from (at + 1) c.if-span-eq0.true

pub returns-in-Some : goal.returns-in-Some
returns-in-Some g c =
    on_ok_weaker c.append_one.result
    (λ e at. e at ∙ one_adds c.args.to.now.items c.args.span.count c.args.span.from c.in-Some.mark (at + 1) (mark_at g.M.Memory.at c.args.shadow.now) c.if-span-eq0.false c.in-Some.ensures.marks)
    c.append_one.ensures
