-- One byte after another: it is looked at, and then printed.
use Rattle.std.proofs.Common.{◌≡◌, ℕ, ◌∙◌, ap, sym, ◌+◌, ◌-◌, ◌%◌, ◌^◌, refl, arith}
use Rattle.cells.specs.declared.Cell.{Cell}
use Rattle.cells.specs.declared.Cell.TheVariants.{Byte}
use Rattle.cells.specs.Bytes.{byte_cells}
use Rattle.cells.specs.Seen.{Seen, read_cells}
use Rattle.rv_semantics.specs.Values.{bytes_of}
use Rattle.layers.specs.Layered.{seen_over}
use Rattle.layers.proofs.Prints.{one_shown, one_printed}
use Rattle.layers.proofs.view.TaskView.show.Goals as goal

pub loop-i-preserved : goal.loop-i-preserved
loop-i-preserved g c =
    let at = g.M.Memory.at in
    let before = c.loop-i.invariant in
    let s : Seen = seen_over at c.loop-i.self.cells in
    let n = c.args.count in
    let a = c.args.from in
    record {
      seen = one_shown n a c.loop-i.i ((a + c.loop-i.i) % 2 ^ 32) s (seen_over at c.byte-v.new.self) c.loop-i-test.true refl c.byte-v.ensures.seen ∙ before.seen;
      value = ap (λ (t : Seen). t.value) c.byte-v.ensures.seen ∙ before.value;
      output = one_printed n a c.loop-i.i ((a + c.loop-i.i) % 2 ^ 32) c.byte-v.result c.loop-i.self.output.items c.append.new.output.items (bytes_of (seen_over at c.args.self.now.cells).value) c.loop-i-test.true refl
          (c.byte-v.ensures.value ∙ ap (λ (f : Cell → ℕ). f (Byte ((a + c.loop-i.i) % 2 ^ 32))) before.value) c.append.ensures.items ∙ before.output;
      to_read = omega (arith, before.to_read, c.byte-v.ensures.read_room);
      to_print = omega (arith, before.to_print, c.append.ensures.len, c.append.ensures.capacity);
      room = omega (arith, before.room, c.byte-v.ensures.write_room);
    }

pub returns-clause-seen : goal.returns-clause-seen
returns-clause-seen g c =
    let none : c.args.count - c.loop-i.i ≡ 0 = omega arith in
    ap (λ k. read_cells (byte_cells k (c.args.from + c.loop-i.i)) (seen_over g.M.Memory.at c.loop-i.self.cells)) (sym none) ∙ c.loop-i.invariant.seen
