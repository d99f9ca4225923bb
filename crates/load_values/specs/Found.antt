-- The loads of a run that give one value each, and the pcs at which loads are executed, by the positions of the run.
use Rattle.std.specs.Prelude.{◌≡◌, ◌↔◌, ℕ, ◌<◌, zero, suc, Bool, true, false, not, if◌then◌else◌, nat_eq, List, [], length, map, Some, All}
use Rattle.std.specs.List.Sorted.{IsStrictlyIncreasing}
use Rattle.std.specs.Map.{lookup}
use Rattle.rv_word.specs.declared.inst.Inst.{Inst}
use Rattle.rv_word.specs.declared.inst.Inst.TheVariants.{Load}
use Rattle.cells.specs.Run.{State}
use Rattle.rv_semantics.specs.Machine.{word_at}
use Rattle.fitting.specs.Fails.{IsLoaded, loads_as, program, arch_at, pc_at, fetched_at}
use Rattle.profile_laws.specs.Profiles.{steps, with_new}
use Rattle.load_values.specs.Values.{pc_of}
use Rattle.load_values.specs.Reading.{has_word}

-- whether an instruction is a load
abbrev pub is_load : Inst → Bool
is_load (Load kind rd rs1 off) = true
is_load _ = false

-- a load of another register than x0
abbrev pub sets_register : Inst → Bool
sets_register (Load kind rd rs1 off) = not (nat_eq rd 0)
sets_register _ = false

module _ (start : State) where
  -- at position i the program's own word is fetched, which loads this value into a register
  pub record Gives (i v : ℕ) : Type 0 where
    pub own : word_at (arch_at start i) ≡ program start (pc_at start i)
    pub sets : sets_register (fetched_at start i) ≡ true
    pub value : loads_as v (fetched_at start i) (arch_at start i) ≡ true

  -- each of the first n positions with the pc gives the value
  abbrev pub AllGive : ℕ → ℕ → ℕ → Type 0
  AllGive n p v = (i : ℕ) → i < n → pc_at start i ≡ p → Gives i v

  -- and there is one
  pub record IsValueAt (n p v : ℕ) : Type 0 where
    pub stood : (i : ℕ) × (i < n) × (pc_at start i ≡ p)
    pub each : AllGive n p v

  -- the pcs at which one of the first n positions executes a load, whichever word it is, in the order of their first ones
  unfoldable pub loading : ℕ → List ℕ
  loading zero = []
  loading (suc n) = if is_load (fetched_at start n) then with_new (pc_at start n) (loading n) else loading n

  -- more than a list of values can hold
  abbrev pub IsWide : ℕ → Type 0
  IsWide n = 524_288 < length (loading n)

  -- the list of the first n positions: a pair stands in it exactly where its value is that of its pc, and has a word
  pub record IsListed (n : ℕ) (rows : List (ℕ × ℕ)) : Type 0 where
    pub rise : IsStrictlyIncreasing (map pc_of rows)
    pub exact : (p v : ℕ) → (lookup (nat_eq p) rows ≡ Some v) ↔ (IsValueAt n p v × (has_word v ≡ true))

  -- the same of as many positions as a budget has steps, or of those to the end of the run
  abbrev pub IsListedWithin : ℕ → List (ℕ × ℕ) → Type 0
  IsListedWithin budget rows = IsListed (steps start budget) rows

  -- at each of these positions that stands at the pc of a pair, its value is what is loaded
  abbrev pub AreLoadedWithin : ℕ → List (ℕ × ℕ) → Type 0
  AreLoadedWithin budget rows = All (IsLoaded start (steps start budget)) rows

  -- these positions execute loads at more pcs than a list of values can hold
  abbrev pub IsWideWithin : ℕ → Type 0
  IsWideWithin budget = IsWide (steps start budget)
