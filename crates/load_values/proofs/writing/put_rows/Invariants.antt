-- The rows so far are written.
use Rattle.std.proofs.Common.{◌≡◌, ◌++◌, take}
use Rattle.std.specs.List.{flat_map}
use Rattle.load_values.specs.Bytes.{row_bytes}
use Rattle.load_values.proofs.writing.put_rows.Given as goal

abbrev pub invariant-loop-pc : goal.invariant-loop-pc
invariant-loop-pc l = l.out.items ≡ l.fn.out.items ++ flat_map row_bytes (take l.pc-index l.rows)
