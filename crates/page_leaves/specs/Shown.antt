-- The leaves that a front has.
use Rattle.std.specs.Prelude.{ℕ, ◌≡◌, ◌⊎◌, ◌%◌, List, Option, None}
use Rattle.tree_node.specs.declared.node.Node.{Node}
use Rattle.page_leaves.specs.Paths.{leaf_bytes, AreOverwritten, IsWritten, IsAlike}
use Rattle.page_leaves.specs.Fronts.{leaf_among}
use Rattle.page_leaves.specs.declared.front.Front.{Front}

-- the leaf of number n that stands in front, if it does
abbrev pub in_front : Front → ℕ → Option Node
in_front f n = leaf_among f.numbers f.leaves n

-- at the place of a number stands no other leaf than the number's
abbrev pub IsAlone : Front → ℕ → Type 0
IsAlone f number = (n : ℕ) → n % 16 ≡ number % 16 → (n ≡ number → ⊥) → in_front f n ≡ None

-- at the place of a number stands no leaf
abbrev pub IsFree : Front → ℕ → Type 0
IsFree f number = (n : ℕ) → n % 16 ≡ number % 16 → in_front f n ≡ None

-- at the place of a number, each leaf stands in one of two fronts at most
abbrev pub AreApart : Front → Front → ℕ → Type 0
AreApart f g number = (n : ℕ) → n % 16 ≡ number % 16 → (in_front f n ≡ None) ⊎ (in_front g n ≡ None)

-- at the place of a number stands the same in one front as in another
abbrev pub IsSameAt : Front → Front → ℕ → Type 0
IsSameAt before after number = (n : ℕ) → n % 16 ≡ number % 16 → in_front after n ≡ in_front before n

-- at all places but that of a number stands the same in one front as in another
abbrev pub IsSameElsewhere : Front → Front → ℕ → Type 0
IsSameElsewhere before after number = (n : ℕ) → (n % 16 ≡ number % 16 → ⊥) → in_front after n ≡ in_front before n

-- the same leaves stand in one front as in another, but for that of a number
abbrev pub IsSameBut : Front → Front → ℕ → Type 0
IsSameBut before after number = (n : ℕ) → (n ≡ number → ⊥) → in_front after n ≡ in_front before n

-- the same leaves stand in one front as in another, but for those of two numbers
abbrev pub IsSameButTwo : Front → Front → ℕ → ℕ → Type 0
IsSameButTwo before after first second = (n : ℕ) → (n ≡ first → ⊥) → (n ≡ second → ⊥) → in_front after n ≡ in_front before n

-- what may be the leaf of a number has the bytes of before, but these from a place on
abbrev pub AreOverwrittenAt : Front → Front → ℕ → ℕ → List ℕ → Type 0
AreOverwrittenAt before after number from bytes = AreOverwritten (in_front before number) (in_front after number) from bytes

-- what may be the leaf of a number has the bytes of before
abbrev pub IsUnwrittenAt : Front → Front → ℕ → Type 0
IsUnwrittenAt before after number = leaf_bytes (in_front after number) ≡ leaf_bytes (in_front before number)

-- bytes were written into the leaf of a number from a place on
abbrev pub IsWrittenAt : Front → Front → ℕ → ℕ → List ℕ → Type 0
IsWrittenAt before after number from bytes = IsWritten (in_front before number) (in_front after number) from bytes

-- there is a leaf of a number where there was one before, and with the same bytes
abbrev pub IsAlikeAt : Front → Front → ℕ → Type 0
IsAlikeAt before after number = IsAlike (in_front before number) (in_front after number)
