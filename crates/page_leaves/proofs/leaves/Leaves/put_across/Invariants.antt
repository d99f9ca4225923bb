use Rattle.std.proofs.Common.{◌≡◌, ◌+◌, ◌*◌, ◌≤◌, length}
use Rattle.cells.specs.Bytes.{after_puts}
use Rattle.page_leaves.specs.Trees.{held, leaves_of}
use Rattle.page_leaves.proofs.leaves.Leaves.put_across.Given as goal

abbrev pub invariant-loop-rest : goal.invariant-loop-rest
invariant-loop-rest g l = record {
  to_do : after_puts (held l.next) l.at l.rest ≡ after_puts (held l.fn.self) l.a l.bytes;
  few : l.steps + 5 * leaves_of l.at (length l.rest) ≤ l.fn.steps + 5 * leaves_of l.a (length l.bytes);
}

abbrev pub decreases-loop-rest : goal.decreases-loop-rest
decreases-loop-rest g l = length l.rest
