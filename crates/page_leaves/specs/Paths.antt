-- The leaves of a tree of nodes, by number. A number of d digits below 64 goes down d levels, its highest digit first.
use Rattle.std.specs.Prelude.{ℕ, zero, suc, ◌≡◌, ◌⊎◌, ◌/◌, ◌%◌, ◌^◌, ◌==◌, if◌then◌else◌, List, [], length, Option, Some, None, true, is_some, slice_index}
use Rattle.cells.specs.Bytes.{number as spelt}
use Rattle.tree_node.specs.declared.node.Node.{Node}
use Rattle.tree_node.specs.Nodes.{child, bytes_of, overwritten}

-- the child at a place of a node, if there is a node
abbrev pub kid : Option Node → ℕ → Option Node
kid None i = None
kid (Some node) i = child node i

-- the leaf of a number, d levels below a node
abbrev pub leaf_below : ℕ → Option Node → ℕ → Option Node
leaf_below zero node n = if n == 0 then node else None
leaf_below (suc d) node n = leaf_below d (kid node (n / 64 ^ d)) (n % 64 ^ d)

-- a node has the children of before, but for the one at a place, which is this
abbrev pub IsRenewed : Option Node → Option Node → ℕ → Option Node → Type 0
IsRenewed before after i inner = (j : ℕ) → kid after j ≡ (if j == i then inner else kid before j)

-- the leaf of a number, so many levels below, is the same as before
abbrev pub IsSameBelow : ℕ → Option Node → Option Node → ℕ → Type 0
IsSameBelow d before after n = leaf_below d after n ≡ leaf_below d before n

-- the leaf of a number, so many levels below, is gone, or the same as before
abbrev pub IsGoneOrSame : ℕ → Option Node → Option Node → ℕ → Type 0
IsGoneOrSame d before after n = (leaf_below d after n ≡ None) ⊎ IsSameBelow d before after n

-- all leaves so many levels below are the same as before
abbrev pub AreSameBelow : ℕ → Option Node → Option Node → Type 0
AreSameBelow d before after = (n : ℕ) → IsSameBelow d before after n

-- all leaves so many levels below are the same as before, but for that of a number
abbrev pub AreOthersSame : ℕ → Option Node → Option Node → ℕ → Type 0
AreOthersSame d before after number = (n : ℕ) → (n ≡ number → ⊥) → IsSameBelow d before after n

-- the leaf of a number, so many levels below, is this one, and the others are the same as before
abbrev pub IsPlaced : ℕ → Option Node → Option Node → ℕ → Option Node → Type 0
IsPlaced d before after number leaf = (n : ℕ) → leaf_below d after n ≡ (if n == number then leaf else leaf_below d before n)

-- the bytes of a leaf, if there is one
abbrev pub leaf_bytes : Option Node → List ℕ
leaf_bytes None = []
leaf_bytes (Some node) = bytes_of node

-- the word at a place of a leaf
abbrev pub word_in : Option Node → ℕ → ℕ
word_in leaf i = spelt 4 i (λ j. slice_index (leaf_bytes leaf) j)

-- a leaf has the bytes of before, but these from a place on
abbrev pub IsOverwritten : Node → Node → ℕ → List ℕ → Type 0
IsOverwritten before after from bytes = bytes_of after ≡ overwritten (bytes_of before) from bytes

-- what may be a leaf has the bytes of before, but these from a place on
abbrev pub AreOverwritten : Option Node → Option Node → ℕ → List ℕ → Type 0
AreOverwritten before after from bytes = leaf_bytes after ≡ overwritten (leaf_bytes before) from bytes

-- bytes were written into a leaf from a place on
abbrev pub IsWritten : Option Node → Option Node → ℕ → List ℕ → Type 0
IsWritten before after from bytes = (is_some before ≡ true) × (is_some after ≡ true) × (length (leaf_bytes before) ≡ 256) × AreOverwritten before after from bytes

-- there is a leaf after where there was one before, and with the same bytes
abbrev pub IsAlike : Option Node → Option Node → Type 0
IsAlike before after = (is_some after ≡ is_some before) × (leaf_bytes after ≡ leaf_bytes before)
