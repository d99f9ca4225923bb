-- The pc and the registers after a view was laid over them.
use Rattle.std.proofs.Common.{◌≡◌, ℕ, ◌%◌, ◌++◌, ap, ◌∙◌}
use Rattle.cells.specs.declared.Cell.{Cell}
use Rattle.cells.specs.declared.Cell.TheVariants.{Pc, Reg}
use Rattle.cells.specs.Cells.{from_cells}
use Rattle.rv_semantics.specs.Values.{plain_value}
use Rattle.layers.specs.Layered.{laid, seen_of, output_of}
use Rattle.seq_machine.specs.States.{state_of}
use Rattle.slave.proofs.Keeps.{on_err}
use Rattle.engine.proofs.Commits.{laid_pc, laid_reg}
use Rattle.engine.proofs.queue.lay.Goals as goal

pub invariant_of-machine : goal.invariant_of-machine
invariant_of-machine g c =
    let m = c.args.machine.now in
    let same = c.in_err-apply.ensures.err_state in
    let pc : c.apply.new.a.pc ≡ m.arch.pc = ap (λ (f : Cell → ℕ). f Pc) same in
    record {
      aligned = ap (λ n. n % 4) pc ∙ m.aligned;
      zero = ap (λ (f : Cell → ℕ). f (Reg 0)) same ∙ m.zero;
      within = m.within;
    }

pub returns-in_err-apply-clause-err : goal.returns-in_err-apply-clause-err
returns-in_err-apply-clause-err g c =
    let s = state_of g.M.Memory.at c.args.machine.now in
    on_err c.from_residual.result (λ i. record { arch = from_cells (c.in_err-apply.ensures.err_state i); env = record s.env { output = c.in_err-apply.ensures.err_output i } })

pub invariant_of-machine-2 : goal.invariant_of-machine-2
invariant_of-machine-2 g c =
    let at = g.M.Memory.at in
    let m = c.args.machine.now in
    let f = plain_value m.arch.pc m.arch.regs (at m.arch.mem) in
    let same = c.in_ok-apply.ensures.state ∙ (λ i. laid (c.pc.ensures i) (seen_of at (c.view.ensures i)) f) in
    let seen = seen_of at c.args.task.now.view in
    let pc : c.apply.new.a.pc ≡ c.args.task.now.pc = ap (λ (h : Cell → ℕ). h Pc) same ∙ laid_pc c.args.task.now.pc seen f in
    record {
      aligned = ap (λ n. n % 4) pc ∙ c.args.task.now.aligned;
      zero = ap (λ (h : Cell → ℕ). h (Reg 0)) same ∙ laid_reg c.args.task.now.pc seen f 0 c.requires.zero ∙ m.zero;
      within = m.within;
    }

pub returns-clause-ok : goal.returns-clause-ok
returns-clause-ok g c =
    let at = g.M.Memory.at in
    let m = c.args.machine.now in
    let f = plain_value m.arch.pc m.arch.regs (at m.arch.mem) in
    let same = c.in_ok-apply.ensures.state ∙ (λ i. laid (c.pc.ensures i) (seen_of at (c.view.ensures i)) f) in
    let s = state_of at m in
    let output = c.in_ok-apply.ensures.output ∙ (λ i. m.out.items ++ output_of (c.view.ensures i)) in
    λ i. record { arch = from_cells (same i); env = record s.env { output = output i } }
