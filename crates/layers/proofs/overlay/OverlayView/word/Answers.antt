-- Four bytes in the checkpoint, four that were put, or both kinds.
use Rattle.std.proofs.Common.{◌∙◌, ap, None, true, arith, refl}
use Rattle.std.specs.Prelude.{slice_index}
use Rattle.cells.specs.Bytes.{byte_cells, number}
use Rattle.cells.specs.Seen.{Seen, read_cells}
use Rattle.rv_semantics.specs.Values.{plain_value, bytes_of}
use Rattle.layers.specs.Marks.{has}
use Rattle.layers.specs.Lines.{is_read, put_at}
use Rattle.layers.specs.Layered.{layered, cells_of, put_reg, base_of}
use Rattle.layers.proofs.Cells.{four_fresh, four_put, fresh_number, put_number, bytes_same}
use Rattle.layers.proofs.overlay.OverlayView.word.Goals as goal

pub returns-in-Checkpoint-clause-value : goal.returns-in-Checkpoint-clause-value
returns-in-Checkpoint-clause-value g c =
    let v = c.args.self.now in
    c.load_word.ensures.value ∙ fresh_number (base_of g.M.Memory.at v) (has v.read_regs) (put_reg v.put_regs (slice_index v.set)) (is_read v.kept.lines) (is_read v.kept.lines) (put_at v.kept.lines) (put_at v.kept.lines) (λ q. refl) c.args.a
    (omega (arith, c.if-a-gt60.false, c.ranges.a.fits)) c.in-Checkpoint.ensures.is.0

pub returns-in-Checkpoint-clause-seen : goal.returns-in-Checkpoint-clause-seen
returns-in-Checkpoint-clause-seen g c =
    let v = c.args.self.now in
    ap (λ f. layered (plain_value v.start v.regs f) (cells_of true (has v.read_regs) (is_read c.look_near.new.self)) (cells_of None (put_reg v.put_regs (slice_index v.set)) (put_at c.look_near.new.self))) c.load_word.ensures.stays
    ∙ four_fresh (base_of g.M.Memory.at v) (has v.read_regs) (put_reg v.put_regs (slice_index v.set)) (is_read v.kept.lines) (is_read c.look_near.new.self) (put_at v.kept.lines) (put_at c.look_near.new.self)
    c.in-Checkpoint.ensures.is.1 c.args.a (omega (arith, c.if-a-gt60.false, c.ranges.a.fits)) c.in-Checkpoint.ensures.is.0 c.in-Checkpoint.ensures.is.2

pub returns-in-Put-clause-value : goal.returns-in-Put-clause-value
returns-in-Put-clause-value g c =
    let v = c.args.self.now in
    put_number (base_of g.M.Memory.at v) (has v.read_regs) (put_reg v.put_regs (slice_index v.set)) (is_read v.kept.lines) (is_read v.kept.lines) (put_at v.kept.lines) (put_at v.kept.lines) (λ q. refl) c.args.a c.in-Put.w
    c.in-Put.ensures.is.0

pub returns-in-Put-clause-seen : goal.returns-in-Put-clause-seen
returns-in-Put-clause-seen g c =
    let v = c.args.self.now in
    four_put (base_of g.M.Memory.at v) (has v.read_regs) (put_reg v.put_regs (slice_index v.set)) (is_read v.kept.lines) (is_read c.look_near.new.self) (put_at v.kept.lines) (put_at c.look_near.new.self)
    c.in-Put.ensures.is.2.puts c.args.a (omega (arith, c.if-a-gt60.false, c.ranges.a.fits)) c.in-Put.ensures.is.1 c.in-Put.ensures.is.2.reads

pub returns-in-Both-clause-value : goal.returns-in-Both-clause-value
returns-in-Both-clause-value g c =
    let v = c.args.self.now in
    let same = bytes_same (base_of g.M.Memory.at v) (has v.read_regs) (put_reg v.put_regs (slice_index v.set)) (is_read v.kept.lines) (is_read c.look_near.new.self) (put_at v.kept.lines) (put_at c.look_near.new.self)
    c.in-Both.ensures.is.puts c.in-Both.ensures.is.reads in
    c.word_in_line.ensures.value ∙ ap (λ (s : Seen). number 4 c.args.a (bytes_of s.value)) same

pub returns-in-Both-clause-seen : goal.returns-in-Both-clause-seen
returns-in-Both-clause-seen g c =
    let v = c.args.self.now in
    let same = bytes_same (base_of g.M.Memory.at v) (has v.read_regs) (put_reg v.put_regs (slice_index v.set)) (is_read v.kept.lines) (is_read c.look_near.new.self) (put_at v.kept.lines) (put_at c.look_near.new.self)
    c.in-Both.ensures.is.puts c.in-Both.ensures.is.reads in
    c.word_in_line.ensures.seen ∙ ap (read_cells (byte_cells 4 c.args.a)) same
