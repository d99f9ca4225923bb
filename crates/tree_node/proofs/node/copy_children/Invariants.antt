use Rattle.std.proofs.Common.{◌≡◌, ℕ, ◌<◌, ◌≤◌, None}
use Rattle.tree_node.specs.Nodes.{child_at}
use Rattle.tree_node.proofs.node.copy_children.Given as goal

abbrev pub invariant-loop-i : goal.invariant-loop-i
invariant-loop-i l = record {
  copied : (j : ℕ) → j < l.i → child_at l.to j ≡ child_at l.children j;
  left : (j : ℕ) → l.i ≤ j → child_at l.to j ≡ None;
}
