-- A line that is brought keeps the same of each byte.
use Rattle.std.proofs.Common.{◌∙◌, ap}
use Rattle.std.specs.Prelude.{slice_index}
use Rattle.cells.specs.Bytes.{byte_cells, number}
use Rattle.cells.specs.Seen.{Seen, read_cells}
use Rattle.rv_semantics.specs.Values.{bytes_of}
use Rattle.layers.specs.Marks.{has}
use Rattle.layers.specs.Lines.{is_read, put_at}
use Rattle.layers.specs.Layered.{put_reg, base_of}
use Rattle.layers.proofs.Cells.{bytes_same}
use Rattle.layers.proofs.overlay.Overlay.word_in_line.Goals as goal

pub returns-clause-value : goal.returns-clause-value
returns-clause-value g c =
    let v = c.args.self.now in
    let kept = c.place_to_read-place.ensures.same in
    let same = bytes_same (base_of g.M.Memory.at v) (has v.read_regs) (put_reg v.put_regs (slice_index v.set)) (is_read v.kept.lines) (is_read c.place_to_read-place.new.self.lines) (put_at v.kept.lines) (put_at c.place_to_read-place.new.self.lines)
    kept.puts kept.reads in
    c.word_there.ensures.value ∙ ap (λ (s : Seen). number 4 c.args.a (bytes_of s.value)) same

pub returns-clause-seen : goal.returns-clause-seen
returns-clause-seen g c =
    let v = c.args.self.now in
    let kept = c.place_to_read-place.ensures.same in
    let same = bytes_same (base_of g.M.Memory.at v) (has v.read_regs) (put_reg v.put_regs (slice_index v.set)) (is_read v.kept.lines) (is_read c.place_to_read-place.new.self.lines) (put_at v.kept.lines) (put_at c.place_to_read-place.new.self.lines)
    kept.puts kept.reads in
    c.word_there.ensures.seen ∙ ap (read_cells (byte_cells 4 c.args.a)) same
