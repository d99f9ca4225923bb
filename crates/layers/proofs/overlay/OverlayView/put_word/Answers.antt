-- The bytes of the word are put in their lines.
use Rattle.std.proofs.Common.{ap, ◌∙◌, ℕ, List, None, true}
use Rattle.std.specs.Prelude.{slice_index}
use mathlib.Core.Path.{fun_ext}
use Rattle.cells.specs.Bytes.{byte_puts}
use Rattle.cells.specs.Seen.{put_cells}
use Rattle.layers.specs.Marks.{has}
use Rattle.layers.specs.Lines.{put_at}
use Rattle.layers.specs.Layered.{layered, seen_over, cells_of, put_reg, base_of, read_of}
use Rattle.layers.proofs.Cells.{puts_many}
use Rattle.layers.proofs.overlay.OverlayView.put_word.Goals as goal

pub returns-clause-ok : goal.returns-clause-ok
returns-clause-ok g c =
    let v = c.args.self.now in
    (λ i. layered (base_of g.M.Memory.at v) (cells_of true (has v.read_regs) (fun_ext c.put_four.ensures.marks i)) (cells_of None (put_reg v.put_regs (slice_index v.set)) (fun_ext c.put_four.ensures.puts i)))
    ∙ puts_many (base_of g.M.Memory.at v) (read_of v) (put_reg v.put_regs (slice_index v.set)) c.to_le_bytes.result c.args.a (put_at v.kept.lines)
    ∙ ap (λ (bs : List ℕ). put_cells (byte_puts c.args.a bs) (seen_over g.M.Memory.at v)) c.to_le_bytes.ensures
