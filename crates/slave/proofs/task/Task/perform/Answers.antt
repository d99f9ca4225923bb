-- The view after the instruction is what its outcome shows; and where the task may print, the other function says so.
use Rattle.std.proofs.Common.{◌≡◌, false, ◌&&◌, sym, ap, ◌∙◌}
use Rattle.rv_semantics.specs.Prints.{is_call, asks}
use Rattle.rv_step.specs.Outcome.{step_outcome, inst_at}
use Rattle.dist_image.specs.Image.{prints_at}
use Rattle.layers.specs.Layered.{seen_of, output_of}
use Rattle.slave.specs.Task.{Shown, shown}
use Rattle.slave.proofs.Calls.{by_step, step_aligned}
use Rattle.slave.proofs.Keeps.{on_err}
use Rattle.slave.proofs.task.Task.perform.Goals as goal

pub returns-then-may_print-clause-next : goal.returns-then-may_print-clause-next
returns-then-may_print-clause-next g c = c.perform_or_print.ensures.next (prints_at c.args.image.now) (sym c.may_print.ensures ∙ c.if-may_print.true)

pub returns-then-may_print-clause-ok : goal.returns-then-may_print-clause-ok
returns-then-may_print-clause-ok g c = c.perform_or_print.ensures.ok (prints_at c.args.image.now) (sym c.may_print.ensures ∙ c.if-may_print.true)

pub returns-in_err-ready-clause-err : goal.returns-in_err-ready-clause-err
returns-in_err-ready-clause-err g c =
    let k : Shown = shown g.M.Memory.at c.args.self.now in
    on_err c.from_residual.result (λ i. record k { seen = c.in_err-ready.ensures.seen i; output = c.in_err-ready.ensures.output i })

pub returns-clause-next : goal.returns-clause-next
returns-clause-next g c =
    let k : Shown = shown g.M.Memory.at c.args.self.now in
    let step = c.in_ok-flow.ensures in
    let quiet : asks (prints_at c.args.image.now) (inst_at k.pc k.seen.value) k.pc ≡ false = ap (λ b. b && is_call (inst_at k.pc k.seen.value)) (sym c.may_print.ensures ∙ c.if-may_print.false) in
    c.next_of.ensures
    ∙ (by_step (prints_at c.args.image.now) k quiet c.in_ok-flow.flow (seen_of g.M.Memory.at c.step.new.self) (output_of c.step.new.self) (step.ok ∙ ap (step_outcome k.pc) c.in_ok-ready.ensures.seen)
    (step.output ∙ c.in_ok-ready.ensures.output)).1

pub returns-clause-aligned : goal.returns-clause-aligned
returns-clause-aligned g c =
    step_aligned c.args.self.now.pc (seen_of g.M.Memory.at c.ready.new.self) (seen_of g.M.Memory.at c.step.new.self) c.in_ok-flow.flow c.next_of.result c.args.self.now.aligned c.in_ok-flow.ensures.ok c.next_of.ensures

pub returns-clause-ok : goal.returns-clause-ok
returns-clause-ok g c =
    let k : Shown = shown g.M.Memory.at c.args.self.now in
    let step = c.in_ok-flow.ensures in
    let quiet : asks (prints_at c.args.image.now) (inst_at k.pc k.seen.value) k.pc ≡ false = ap (λ b. b && is_call (inst_at k.pc k.seen.value)) (sym c.may_print.ensures ∙ c.if-may_print.false) in
    (by_step (prints_at c.args.image.now) k quiet c.in_ok-flow.flow (seen_of g.M.Memory.at c.step.new.self) (output_of c.step.new.self) (step.ok ∙ ap (step_outcome k.pc) c.in_ok-ready.ensures.seen)
    (step.output ∙ c.in_ok-ready.ensures.output)).0
