-- A register that was put, or the one of the checkpoint, which is marked.
use Rattle.std.proofs.Common.{◌∙◌, sym, arith}
use Rattle.std.specs.Prelude.{slice_index}
use Rattle.layers.specs.Lines.{is_read, put_at}
use Rattle.layers.specs.Layered.{base_of}
use Rattle.layers.proofs.Cells.{reg_again, reg_new}
use Rattle.layers.proofs.overlay.Overlay.register.Goals as goal

pub returns-then-has_register-clause-value : goal.returns-then-has_register-clause-value
returns-then-has_register-clause-value g c =
    let v = c.args.self.now in
    (reg_again (base_of g.M.Memory.at v) v.read_regs v.put_regs (slice_index v.set) (is_read v.kept.lines) (put_at v.kept.lines) c.args.r (omega arith)
    (sym c.has_register.ensures ∙ c.if-has_register.true)).0

pub returns-then-has_register-clause-seen : goal.returns-then-has_register-clause-seen
returns-then-has_register-clause-seen g c =
    let v = c.args.self.now in
    (reg_again (base_of g.M.Memory.at v) v.read_regs v.put_regs (slice_index v.set) (is_read v.kept.lines) (put_at v.kept.lines) c.args.r (omega arith)
    (sym c.has_register.ensures ∙ c.if-has_register.true)).1

pub returns-clause-value : goal.returns-clause-value
returns-clause-value g c =
    let v = c.args.self.now in
    (reg_new (base_of g.M.Memory.at v) v.read_regs v.put_regs (slice_index v.set) (is_read v.kept.lines) (put_at v.kept.lines) c.args.r c.with_register-self.result (omega arith)
    (sym c.has_register.ensures ∙ c.if-has_register.false)
    (c.with_register-self.ensures)).0

pub returns-clause-seen : goal.returns-clause-seen
returns-clause-seen g c =
    let v = c.args.self.now in
    (reg_new (base_of g.M.Memory.at v) v.read_regs v.put_regs (slice_index v.set) (is_read v.kept.lines) (put_at v.kept.lines) c.args.r c.with_register-self.result (omega arith)
    (sym c.has_register.ensures ∙ c.if-has_register.false)
    (c.with_register-self.ensures)).1
