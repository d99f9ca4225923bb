-- The bytes are put in their lines.
use Rattle.std.proofs.Common.{◌∙◌, None, true}
use Rattle.std.specs.Prelude.{slice_index}
use mathlib.Core.Path.{fun_ext}
use Rattle.layers.specs.Marks.{has}
use Rattle.layers.specs.Lines.{put_at}
use Rattle.layers.specs.Layered.{layered, cells_of, put_reg, base_of, read_of}
use Rattle.layers.proofs.Cells.{puts_many}
use Rattle.layers.proofs.overlay.OverlayView.put.Goals as goal

pub returns-clause-ok : goal.returns-clause-ok
returns-clause-ok g c =
    let v = c.args.self.now in
    (λ i. layered (base_of g.M.Memory.at v) (cells_of true (has v.read_regs) (fun_ext c.put_all.ensures.marks i)) (cells_of None (put_reg v.put_regs (slice_index v.set)) (fun_ext c.put_all.ensures.puts i)))
    ∙ puts_many (base_of g.M.Memory.at v) (read_of v) (put_reg v.put_regs (slice_index v.set)) c.args.bytes.now c.args.a (put_at v.kept.lines)
