-- What a node has: a child at each place below 64, or a byte at each place below 256.
use Rattle.std.specs.Prelude.{ℕ, ◌≡◌, ◌≤◌, ◌<◌, List, [], ◌++◌, ◌+◌, length, take, drop, Option, Some, None, Bool, true, false, slice_index_or, slice_index}
use Rattle.std.specs.Global.{Global}
use Rattle.std.specs.declared.rc.Rc.{Rc}
use Rattle.tree_node.specs.declared.node.Children.{Children}
use Rattle.tree_node.specs.declared.node.Node.{Node, out-Node}
use Rattle.tree_node.specs.declared.node.Node.TheOpen.{Node-F, Inner, Leaf}

-- what an owner owns, if there is one
abbrev pub owned : Option (Rc Node Global) → Option Node
owned None = None
owned (Some rc) = Some rc.value

-- of 64 children, the one at a place
abbrev pub child_at : List (Option (Rc Node Global)) → ℕ → Option Node
child_at children i = owned (slice_index_or children i None)

-- child i of a node
abbrev pub child_in : Node-F Node Children → ℕ → Option Node
child_in (Inner box) i = child_at box.value.at i
child_in (Leaf bytes) i = None

-- the bytes of a leaf
abbrev pub bytes_in : Node-F Node Children → List ℕ
bytes_in (Inner box) = []
bytes_in (Leaf bytes) = bytes.at

-- whether a node has children
abbrev pub is_inner_in : Node-F Node Children → Bool
is_inner_in (Inner box) = true
is_inner_in (Leaf bytes) = false

-- child i of a node
abbrev pub child : Node → ℕ → Option Node
child n i = child_in (out-Node n) i

-- the bytes of a leaf
abbrev pub bytes_of : Node → List ℕ
bytes_of n = bytes_in (out-Node n)

-- a byte that no leaf holds is 0
abbrev pub byte : Node → ℕ → ℕ
byte n i = slice_index (bytes_of n) i

-- a list with these bytes in place of as many from an index on
abbrev pub overwritten : List ℕ → ℕ → List ℕ → List ℕ
overwritten xs from bytes = take from xs ++ (bytes ++ drop (from + length bytes) xs)

-- whether a node has children
abbrev pub is_inner : Node → Bool
is_inner n = is_inner_in (out-Node n)

-- a node has these 64 bytes from a place on
abbrev pub HasLine : Node → ℕ → List ℕ → Type 0
HasLine n i bytes = (j : ℕ) → i ≤ j → j < i + 64 → byte n j ≡ slice_index bytes j
