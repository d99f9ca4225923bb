-- A byte that was put, or the one of the checkpoint, which is marked.
use Rattle.std.proofs.Common.{◌∙◌, ap, sym, Some, None, unwrap_or, refl}
use Rattle.std.specs.Prelude.{slice_index}
use Rattle.cells.specs.declared.Cell.TheVariants.{Byte}
use Rattle.layers.specs.Marks.{has}
use Rattle.layers.specs.Lines.{is_read, put_at}
use Rattle.layers.specs.Layered.{put_reg, base_of}
use Rattle.layers.proofs.Cells.{byte_looked, bytes_value}
use Rattle.layers.proofs.overlay.Overlay.byte_there.Goals as goal

pub returns-in-Some-clause-value : goal.returns-in-Some-clause-value
returns-in-Some-clause-value g c =
    let v = c.args.self.now in
    let base = base_of g.M.Memory.at v in
    sym (bytes_value base (has v.read_regs) (put_reg v.put_regs (slice_index v.set)) (is_read v.kept.lines) (is_read v.kept.lines) (put_at v.kept.lines) (put_at v.kept.lines) (λ q. refl) c.args.a
    ∙ ap (λ o. unwrap_or o (base (Byte c.args.a))) (sym (c.in-Some.ensures.value)))

pub returns-in-Some-clause-seen : goal.returns-in-Some-clause-seen
returns-in-Some-clause-seen g c =
    let v = c.args.self.now in
    byte_looked (base_of g.M.Memory.at v) (has v.read_regs) (put_reg v.put_regs (slice_index v.set)) (is_read v.kept.lines) (is_read c.look.new.self) (put_at v.kept.lines) (put_at c.look.new.self)
    c.look.ensures.puts c.args.a (Some c.in-Some.v) (c.in-Some.ensures.value)
    c.in-Some.ensures.reads

pub returns-in-None-clause-value : goal.returns-in-None-clause-value
returns-in-None-clause-value g c =
    let v = c.args.self.now in
    let base = base_of g.M.Memory.at v in
    c.get.ensures ∙ sym (bytes_value base (has v.read_regs) (put_reg v.put_regs (slice_index v.set)) (is_read v.kept.lines) (is_read v.kept.lines) (put_at v.kept.lines) (put_at v.kept.lines) (λ q. refl) c.args.a
    ∙ ap (λ o. unwrap_or o (base (Byte c.args.a))) (sym (c.in-None.ensures.value)))

pub returns-in-None-clause-seen : goal.returns-in-None-clause-seen
returns-in-None-clause-seen g c =
    let v = c.args.self.now in
    byte_looked (base_of g.M.Memory.at v) (has v.read_regs) (put_reg v.put_regs (slice_index v.set)) (is_read v.kept.lines) (is_read c.look.new.self) (put_at v.kept.lines) (put_at c.look.new.self)
    c.look.ensures.puts c.args.a None (c.in-None.ensures.value)
    c.in-None.ensures.reads
