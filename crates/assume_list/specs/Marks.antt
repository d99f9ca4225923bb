-- Which stores mark what they put: those that are claimed dead. And the marks of bytes.
use Rattle.std.specs.Prelude.{◌≡◌, ℕ, ◌+◌, zero, suc, cond, not, nat_eq, ◌&&◌, Bool, if◌then◌else◌, List, [], ◌∷◌, ◌++◌, map}
use Rattle.dist_image.specs.Image.{Premise, Dead}
use Rattle.fitting.specs.Claims.{among}
use Rattle.profile_laws.specs.Tally.{places}
use Rattle.access_trace.specs.declared.shadow.Shadow.{Shadow}
use Rattle.access_trace.specs.declared.span.ByteRange.{ByteRange}
use Rattle.access_trace.specs.Shadows.{mark_at}
use Rattle.assume_list.specs.declared.watch.Coming.{Coming}

-- 1 at the pc of each store of a list that is claimed dead, over what is there already
abbrev pub with_dead : List Premise → (ℕ → ℕ) → ℕ → ℕ
with_dead [] m = m
with_dead (Dead at ∷ xs) m = with_dead xs (λ b. cond (nat_eq at b) 1 (m b))
with_dead (_ ∷ xs) m = with_dead xs m

-- for each pc of a listed dead store its number in the list, one up, and else 0
abbrev pub dead_in : List Premise → ℕ → ℕ
dead_in xs = with_dead xs (λ _. 0)

-- a mark counts where its store is claimed dead: it is 1 more than the store's pc
abbrev pub counted : (ℕ → ℕ) → ℕ → ℕ
counted dead zero = 0
counted dead (suc pc) = cond (nat_eq (dead pc) 0) 0 (suc pc)

-- what an instruction at a pc marks the bytes with that it puts, where `stores` tells whether it is a store
abbrev pub mark_by : Bool → (ℕ → ℕ) → ℕ → ℕ
mark_by stores dead pc = if stores then counted dead (pc + 1) else 0

-- whether an instruction at a pc is a store that is claimed dead
abbrev pub is_dead_store : Bool → (ℕ → ℕ) → ℕ → Bool
is_dead_store stores dead pc = stores && not (nat_eq (dead pc) 0)

-- whichever stores are claimed dead, if `is_dead` tells whether an instruction at a pc is one of them, this is its mark
abbrev pub IsMark : Bool → ℕ → ℕ → Type 0
IsMark is_dead pc mark = (stores : Bool) (dead : ℕ → ℕ) → is_dead ≡ is_dead_store stores dead pc → mark ≡ mark_by stores dead pc

-- the bytes that an instruction at a pc puts have its mark now, and the others the marks that they had
abbrev pub AreMarked : {M : Type 0} → (M → ℕ → ℕ) → Coming → (ℕ → ℕ) → ℕ → Shadow M → Shadow M → Type 0
AreMarked at coming dead pc old new =
    (a : ℕ) → mark_at at new a ≡ (if among (places coming.puts.count coming.puts.from) a then mark_by coming.stores dead pc else mark_at at old a)

-- two lists have the same numbers, but for 0
abbrev pub HaveSame : List ℕ → List ℕ → Type 0
HaveSame ms ns = (at : ℕ) → among ms (at + 1) ≡ among ns (at + 1)

-- the marks of the bytes of a span
abbrev pub marks_in : {M : Type 0} → (M → ℕ → ℕ) → Shadow M → ByteRange → List ℕ
marks_in at marks span = map (mark_at at marks) (places span.count span.from)

-- the marks of the bytes that an instruction at a pc reads: those of its word, and those that it loads
abbrev pub marks_read : {M : Type 0} → (M → ℕ → ℕ) → Shadow M → ℕ → ByteRange → List ℕ
marks_read at marks pc loads = map (mark_at at marks) (places 4 pc ++ places loads.count loads.from)
