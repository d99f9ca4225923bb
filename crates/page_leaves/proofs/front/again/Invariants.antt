use Rattle.std.proofs.Common.{◌≡◌, ℕ, ◌<◌, ◌≤◌, None}
use Rattle.tree_node.specs.Nodes.{child_at}
use Rattle.page_leaves.proofs.front.again.Given as goal

abbrev pub invariant-loop-i : goal.invariant-loop-i
invariant-loop-i l = record {
  copied : (j : ℕ) → j < l.i → child_at l.copy j ≡ child_at l.leaves j;
  left : (j : ℕ) → l.i ≤ j → child_at l.copy j ≡ None;
}
