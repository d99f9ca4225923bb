-- The leaves of a memory by number, and the bytes that they hold.
use Rattle.std.specs.Prelude.{ℕ, ◌≡◌, ◌+◌, ◌-◌, ◌/◌, ◌%◌, ◌==◌, if◌then◌else◌, List, Option, Some, None, slice_index}
use Rattle.cells.specs.Bytes.{after_puts}
use Rattle.tree_node.specs.declared.node.Node.{Node}
use Rattle.tree_node.specs.Nodes.{owned}
use Rattle.page_leaves.specs.Paths.{leaf_below, leaf_bytes}
use Rattle.page_leaves.specs.Shown.{in_front}
use Rattle.page_leaves.specs.declared.leaves.Leaves.{Leaves}

-- the first of two leaves where there is one, else the other
abbrev pub or_else : Option Node → Option Node → Option Node
or_else None other = other
or_else (Some leaf) other = Some leaf

-- the leaf of a number where none stands in front: the one aside, or else the tree's
abbrev pub behind : Leaves → ℕ → Option Node
behind t n = or_else (in_front t.aside n) (leaf_below 4 (owned t.root) n)

-- the leaf of a number
abbrev pub leaf_of : Leaves → ℕ → Option Node
leaf_of t n = or_else (in_front t.front n) (behind t n)

-- a byte that no leaf holds is 0
abbrev pub held : Leaves → ℕ → ℕ
held t a = slice_index (leaf_bytes (leaf_of t (a / 256))) (a % 256)

-- what memory holds after two puts
abbrev pub both_put : (ℕ → ℕ) → ℕ → List ℕ → ℕ → List ℕ → ℕ → ℕ
both_put m a here next later = after_puts (after_puts m a here) next later

-- the leaves are the same as before, but for those of two addresses
abbrev pub AreLeavesKept : Leaves → Leaves → ℕ → ℕ → Type 0
AreLeavesKept before after a next = (n : ℕ) → (n ≡ a / 256 → ⊥) → (n ≡ next / 256 → ⊥) → leaf_of after n ≡ leaf_of before n

-- how many leaves hold these bytes
abbrev pub leaves_of : ℕ → ℕ → ℕ
leaves_of a n = if n == 0 then 0 else (a % 256 + n - 1) / 256 + 1
