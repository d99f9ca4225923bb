-- The leaves that were loaded from, each at a place that its number and its region give.
use Rattle.std.specs.Prelude.{ℕ, ◌+◌, ◌/◌, ◌%◌, ◌==◌, if◌then◌else◌, List, Option, None, slice_index}
use Rattle.std.specs.Global.{Global}
use Rattle.std.specs.declared.rc.Rc.{Rc}
use Rattle.tree_node.specs.declared.node.Node.{Node}
use Rattle.tree_node.specs.Nodes.{child_at}

-- the place of a leaf that was loaded from: leaves that lie 2,048 apart have different ones
abbrev pub spot : ℕ → ℕ
spot n = (n + n / 2048) % 16

-- the leaf of a number, if it was loaded from and stands at its place
abbrev pub leaf_loaded : List ℕ → List (Option (Rc Node Global)) → ℕ → Option Node
leaf_loaded numbers leaves n = if slice_index numbers (spot n) == n then child_at leaves (spot n) else None
