-- What is kept of leaves beside a memory: it is what the memory holds.
use Rattle.std.specs.Prelude.{ℕ, ◌≡◌, true, List, is_some, slice_index}
use Rattle.cells.specs.Bytes.{after_puts}
use Rattle.page_leaves.specs.Paths.{leaf_bytes}
use Rattle.page_leaves.specs.Shown.{in_front}
use Rattle.page_leaves.specs.Trees.{leaf_of, held}
use Rattle.page_leaves.specs.declared.front.Front.{Front}
use Rattle.page_leaves.specs.declared.leaves.Leaves.{Leaves}
use Rattle.page_tree.specs.Shown.{in_recent}
use Rattle.page_tree.specs.declared.recent.Recent.{Recent}

-- the leaves of code that are kept hold what the memory holds
abbrev pub IsKept : Front → Leaves → Type 0
IsKept code leaves = (n i : ℕ) → is_some (in_front code n) ≡ true → slice_index (leaf_bytes (in_front code n)) i ≡ slice_index (leaf_bytes (leaf_of leaves n)) i

-- and so do those that were loaded from
abbrev pub IsLoaded : Recent → Leaves → Type 0
IsLoaded loaded leaves = (n i : ℕ) → is_some (in_recent loaded n) ≡ true → slice_index (leaf_bytes (in_recent loaded n)) i ≡ slice_index (leaf_bytes (leaf_of leaves n)) i

-- a memory holds what it held before, but these bytes from an address on
abbrev pub IsPut : Leaves → Leaves → ℕ → List ℕ → Type 0
IsPut before after a bytes = held after ≡ after_puts (held before) a bytes
