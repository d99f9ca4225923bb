-- The word is fetched; and a call goes one way, every other instruction the other.
use Rattle.std.proofs.Common.{ap, ◌∙◌, arith}
use Rattle.std.proofs.lemmas.Result.{IfOk-weaker, on_ok_weaker}
use Rattle.cells.specs.Bytes.{byte_cells}
use Rattle.cells.specs.Seen.{read_cells}
use Rattle.layers.specs.Layered.{seen_of, output_of}
use Rattle.slave.specs.Task.{Shown, shown}
use Rattle.slave.proofs.Calls.{word_is, by_call, by_step_again, step_aligned}
use Rattle.slave.proofs.Keeps.{on_err}
use Rattle.slave.proofs.task.Task.perform_or_print.Goals as goal

pub returns-in_err-ready_call-clause-err : goal.returns-in_err-ready_call-clause-err
returns-in_err-ready_call-clause-err g c =
    let k : Shown = shown g.M.Memory.at c.args.self.now in
    on_err c.from_residual.result (λ i. record k { seen = c.in_err-ready_call.ensures.seen i; output = c.in_err-ready_call.ensures.output i })

pub call-requires : goal.call-requires
call-requires g c =
    let room = c.in_ok-ready_call.ensures.ok in
    c.fetch-word.ensures.room 256 1 256 (record { to_read = omega (arith, room.to_read); to_put = omega (arith, room.to_put); to_print = room.to_print })

pub returns-in-Ecall-clause-next : goal.returns-in-Ecall-clause-next
returns-in-Ecall-clause-next g c = λ prints listed.
    let k : Shown = shown g.M.Memory.at c.args.self.now in
    let ready = c.in_ok-ready_call.ensures in
    let fetch = c.fetch-word.ensures in
    let is = word_is k.pc c.fetch-word.result k.seen (seen_of g.M.Memory.at c.ready_call.new.self) c.decode.result c.decode.ensures.means fetch.value ready.seen in
    let done = by_call prints k listed (is ∙ c.in-Ecall.is) (seen_of g.M.Memory.at c.fetch-word.new.self) (output_of c.fetch-word.new.self) (fetch.seen ∙ ap (read_cells (byte_cells 4 k.pc)) ready.seen) (fetch.output ∙ ready.output) in
    IfOk-weaker c.call.result _ _ (λ x p. p ∙ done.1) c.call.ensures.next

pub returns-in-Ecall-clause-ok : goal.returns-in-Ecall-clause-ok
returns-in-Ecall-clause-ok g c = λ prints listed.
    let k : Shown = shown g.M.Memory.at c.args.self.now in
    let ready = c.in_ok-ready_call.ensures in
    let fetch = c.fetch-word.ensures in
    let is = word_is k.pc c.fetch-word.result k.seen (seen_of g.M.Memory.at c.ready_call.new.self) c.decode.result c.decode.ensures.means fetch.value ready.seen in
    let done = by_call prints k listed (is ∙ c.in-Ecall.is) (seen_of g.M.Memory.at c.fetch-word.new.self) (output_of c.fetch-word.new.self) (fetch.seen ∙ ap (read_cells (byte_cells 4 k.pc)) ready.seen) (fetch.output ∙ ready.output) in
    on_ok_weaker c.call.result (λ e. e ∙ done.0) c.call.ensures.ok

pub returns-in_ok-flow-in_default-clause-next : goal.returns-in_ok-flow-in_default-clause-next
returns-in_ok-flow-in_default-clause-next g c = λ prints listed.
    let k : Shown = shown g.M.Memory.at c.args.self.now in
    let ready = c.in_ok-ready_call.ensures in
    let fetch = c.fetch-word.ensures in
    let step = c.in_ok-flow-in_default.ensures in
    let is = word_is k.pc c.fetch-word.result k.seen (seen_of g.M.Memory.at c.ready_call.new.self) c.decode.result c.decode.ensures.means fetch.value ready.seen in
    c.next_of.ensures
    ∙ (by_step_again prints k listed c.decode.result c.in_default.not-Ecall is c.in_ok-flow-in_default.flow (seen_of g.M.Memory.at c.step.new.self) (seen_of g.M.Memory.at c.fetch-word.new.self) (output_of c.step.new.self)
    (fetch.seen ∙ ap (read_cells (byte_cells 4 k.pc)) ready.seen) step.ok (step.output ∙ fetch.output ∙ ready.output)).1

pub returns-in_ok-flow-in_default-clause-aligned : goal.returns-in_ok-flow-in_default-clause-aligned
returns-in_ok-flow-in_default-clause-aligned g c =
    step_aligned c.args.self.now.pc (seen_of g.M.Memory.at c.fetch-word.new.self) (seen_of g.M.Memory.at c.step.new.self) c.in_ok-flow-in_default.flow c.next_of.result c.args.self.now.aligned c.in_ok-flow-in_default.ensures.ok c.next_of.ensures

pub returns-in_ok-flow-in_default-clause-ok : goal.returns-in_ok-flow-in_default-clause-ok
returns-in_ok-flow-in_default-clause-ok g c = λ prints listed.
    let k : Shown = shown g.M.Memory.at c.args.self.now in
    let ready = c.in_ok-ready_call.ensures in
    let fetch = c.fetch-word.ensures in
    let step = c.in_ok-flow-in_default.ensures in
    let is = word_is k.pc c.fetch-word.result k.seen (seen_of g.M.Memory.at c.ready_call.new.self) c.decode.result c.decode.ensures.means fetch.value ready.seen in
    (by_step_again prints k listed c.decode.result c.in_default.not-Ecall is c.in_ok-flow-in_default.flow (seen_of g.M.Memory.at c.step.new.self) (seen_of g.M.Memory.at c.fetch-word.new.self) (output_of c.step.new.self)
    (fetch.seen ∙ ap (read_cells (byte_cells 4 k.pc)) ready.seen) step.ok (step.output ∙ fetch.output ∙ ready.output)).0
