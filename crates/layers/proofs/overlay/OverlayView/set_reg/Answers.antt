-- A register is put.
use Rattle.std.proofs.Common.{arith, set}
use Rattle.std.specs.Prelude.{slice_index}
use Rattle.layers.specs.Lines.{is_read, put_at}
use Rattle.layers.specs.Layered.{base_of}
use Rattle.rv_step.proofs.Plain.{get_set}
use Rattle.layers.proofs.Cells.{reg_set}
use Rattle.layers.proofs.overlay.OverlayView.set_reg.Goals as goal

pub returns-then-r-ne0-clause-seen : goal.returns-then-r-ne0-clause-seen
returns-then-r-ne0-clause-seen g c =
    let v = c.args.self.now in
    reg_set (base_of g.M.Memory.at v) v.read_regs v.put_regs (slice_index v.set) (is_read v.kept.lines) (put_at v.kept.lines) c.args.r c.args.v c.with_register-self.result (slice_index (set v.set c.args.r c.args.v)) (omega arith)
    (c.with_register-self.ensures)
    (λ j. get_set v.set c.args.r j c.args.v 0 (omega arith))
