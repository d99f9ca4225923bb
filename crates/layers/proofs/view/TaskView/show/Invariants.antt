-- What was shown on the way, with the bytes still to come, is what will be shown; and there is room for these.
use Rattle.std.proofs.Common.{◌≡◌, ◌≤◌, ◌+◌, ◌-◌, ◌++◌, vec_len, vec_capacity}
use Rattle.cells.specs.Bytes.{byte_cells, bytes_from}
use Rattle.cells.specs.Seen.{read_cells}
use Rattle.rv_semantics.specs.Values.{bytes_of}
use Rattle.layers.specs.Layered.{seen_over}
use Rattle.layers.proofs.view.TaskView.show.Given as goal

abbrev pub invariant-loop-i : goal.invariant-loop-i
invariant-loop-i g l =
    let at = g.M.Memory.at in record {
      seen : read_cells (byte_cells (l.count - l.i) (l.from + l.i)) (seen_over at l.self.cells) ≡ read_cells (byte_cells l.count l.from) (seen_over at l.fn.self.cells);
      value : (seen_over at l.self.cells).value ≡ (seen_over at l.fn.self.cells).value;
      output : l.self.output.items ++ bytes_from (l.count - l.i) (l.from + l.i) (bytes_of (seen_over at l.fn.self.cells).value) ≡ l.fn.self.output.items ++ bytes_from l.count l.from (bytes_of (seen_over at l.fn.self.cells).value);
      to_read : l.count - l.i ≤ l.self.cells.kept.reads;
      to_print : vec_len l.self.output + (l.count - l.i) ≤ vec_capacity l.self.output;
      room : l.fn.self.cells.kept.writes ≤ l.self.cells.kept.writes;
    }
