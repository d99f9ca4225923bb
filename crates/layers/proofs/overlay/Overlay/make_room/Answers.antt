-- Room changes nothing of what is shown.
use Rattle.std.specs.Prelude.{slice_index}
use Rattle.layers.specs.Marks.{has}
use Rattle.layers.specs.Lines.{is_read, put_at}
use Rattle.layers.specs.Layered.{put_reg, base_of}
use Rattle.layers.proofs.Cells.{bytes_same}
use Rattle.layers.proofs.overlay.Overlay.make_room.Goals as goal

pub returns-clause-seen : goal.returns-clause-seen
returns-clause-seen g c =
    let v = c.args.self.now in
    bytes_same (base_of g.M.Memory.at v) (has v.read_regs) (put_reg v.put_regs (slice_index v.set)) (is_read v.kept.lines) (is_read c.make_room.new.self.lines) (put_at v.kept.lines) (put_at c.make_room.new.self.lines)
    c.make_room.ensures.same.puts c.make_room.ensures.same.reads
