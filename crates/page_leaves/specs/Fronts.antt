-- The leaves that stand in front of a tree: one for each remainder of 16.
use Rattle.std.specs.Prelude.{ℕ, ◌%◌, ◌^◌, ◌<◌, ◌==◌, if◌then◌else◌, List, Option, None, slice_index}
use Rattle.std.specs.Global.{Global}
use Rattle.std.specs.declared.rc.Rc.{Rc}
use Rattle.tree_node.specs.declared.node.Node.{Node}
use Rattle.tree_node.specs.Nodes.{child_at}

-- the leaf of a number, if it stands there
abbrev pub leaf_among : List ℕ → List (Option (Rc Node Global)) → ℕ → Option Node
leaf_among numbers leaves n = if slice_index numbers (n % 16) == n then child_at leaves (n % 16) else None

-- each is the number of a leaf, or of none
abbrev pub AreNumbers : List ℕ → Type 0
AreNumbers numbers = (k : ℕ) → slice_index numbers k < 2 ^ 24
