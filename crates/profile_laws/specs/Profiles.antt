-- The profile of the first n steps of a run, by the positions before n and by pairs of them.
use Rattle.std.specs.Prelude.{◌≡◌, ◌≢◌, ◌↔◌, ℕ, ◌+◌, ◌<◌, zero, suc, Bool, true, false, not, ◌&&◌, ◌||◌, if◌then◌else◌, nat_eq, List, [], ◌∷◌, ◌++◌, map, length, All, ◌⊎◌}
use Rattle.std.specs.List.Sorted.{IsStrictlyIncreasing}
use Rattle.rv_word.specs.declared.inst.Inst.{Inst}
use Rattle.rv_word.specs.declared.inst.Inst.TheVariants.{Branch}
use Rattle.cells.specs.declared.Cell.TheVariants.{Byte}
use Rattle.cells.specs.Cells.{Arch, value}
use Rattle.cells.specs.Run.{State, is_over}
use Rattle.rv_semantics.specs.Values.{register_value}
use Rattle.rv_semantics.specs.Effect.{holds, is_store}
use Rattle.rv_semantics.specs.Prints.{is_task_call}
use Rattle.rv_semantics.specs.Machine.{machine, machine_in, word_at}
use Rattle.profile_data.specs.Profile.{Tally, Profiled, pc_of, target_count}
use Rattle.fitting.specs.Claims.{among}
use Rattle.fitting.specs.Fails.{IsRegisterJump, program, state_at, arch_at, pc_at, fetched_at, IsLatestWriter}

-- whether it is a branch whose condition holds, wherever it leads
abbrev pub is_taken : Inst → Arch → Bool
is_taken (Branch test rs1 rs2 off) s = holds test (register_value rs1 (value s)) (register_value rs2 (value s))
is_taken _ s = false

-- what a row's second number counts: a branch whose condition holds, or a short write where one may print
abbrev pub is_counted : (ℕ → Bool) → Inst → Arch → Bool
is_counted prints i s = is_taken i s || is_task_call prints i s.pc (value s)

-- a profile counts and reads the short writes at every pc, or at none
abbrev pub with_mark : Bool → ℕ → Bool
with_mark calls pc = calls

-- how many numbers below n pass
unfoldable pub count_below : (ℕ → Bool) → ℕ → ℕ
count_below test zero = 0
count_below test (suc n) = count_below test n + (if test n then 1 else 0)

-- a number goes last, unless it is there
abbrev pub with_new : ℕ → List ℕ → List ℕ
with_new n ns = if among ns n then ns else ns ++ n ∷ []

module _ (start : State) where
  abbrev pub is_at : ℕ → ℕ → Bool
  is_at pc i = nat_eq (pc_at start i) pc

  -- how many of the first `budget` steps the run takes
  abbrev pub steps : ℕ → ℕ
  steps budget = count_below (λ i. not (is_over (state_at start i))) budget

  -- the pcs of the positions before n, in the order of their first ones
  unfoldable pub pcs : ℕ → List ℕ
  pcs zero = []
  pcs (suc n) = with_new (pc_at start n) (pcs n)

  abbrev pub executed : ℕ → ℕ → ℕ
  executed n pc = count_below (λ i. is_at pc i) n

  -- a jump by a register that was fetched at the pc, and doesn't end the run, goes there
  abbrev pub GoesTo : ℕ → ℕ → ℕ → Type 0
  GoesTo n pc to =
      (i : ℕ) × (i < n) × (pc_at start i ≡ pc) × IsRegisterJump (fetched_at start i) × (machine.stops (arch_at start i) ≡ false) × (pc_at start (suc i) ≡ to)

  -- another word than the program's is fetched at the pc
  abbrev pub Changes : ℕ → ℕ → Type 0
  Changes n pc = (i : ℕ) × (i < n) × (pc_at start i ≡ pc) × (word_at (arch_at start i) ≢ program start pc)

-- the same where short writes may print at these pcs
module _ (prints : ℕ → Bool) (start : State) where
  abbrev pub taken : ℕ → ℕ → ℕ
  taken n pc = count_below (λ i. is_at start pc i && is_counted prints (fetched_at start i) (arch_at start i)) n

  -- position j loads a byte, or fetches it, whose latest writer is a store at the pc
  abbrev pub IsReadBack : ℕ → ℕ → Type 0
  IsReadBack n pc =
      (i : ℕ) × (j : ℕ) × (a : ℕ) × (j < n) × (pc_at start i ≡ pc) × (is_store (fetched_at start i) ≡ true)
      × IsLatestWriter start j a i × ((machine_in prints).reads (arch_at start j) (Byte a) ≡ true)

  -- what the first n steps did at a pc
  pub record IsRow (n : ℕ) (t : Tally) : Type 0 where
    pub executed : t.executed ≡ executed start n t.pc
    pub taken : t.taken ≡ taken n t.pc
    pub read : (t.read ≡ true) ↔ IsReadBack n t.pc
    pub changed : (t.changed ≡ true) ↔ Changes start n t.pc
    pub targets : (to : ℕ) → (among t.targets to ≡ true) ↔ GoesTo start n t.pc to
    pub targets_rise : IsStrictlyIncreasing t.targets

  -- what the first n steps did: a row for each pc that they executed
  pub record IsProfileOf (n : ℕ) (p : Profiled) : Type 0 where
    pub steps : p.steps ≡ n
    pub ended : p.ended ≡ is_over (state_at start n)
    pub pcs : map pc_of p.rows ≡ pcs start n
    pub rows : All (IsRow n) p.rows

-- more rows, or more targets in all, than a profile can hold
abbrev pub IsWide : List Tally → Type 0
IsWide rows = (524_288 < length rows) ⊎ (1_048_576 < target_count rows)
