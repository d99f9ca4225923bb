-- When an assumption fails at a position of a run, and when the first n steps of a run meet the list.
use Rattle.std.specs.Prelude.{◌≡◌, ◌≢◌, ℕ, ◌+◌, ◌<◌, ◌≤◌, suc, Bool, true, false, nat_eq, slice_get, Some, ◌⊎◌}
use Rattle.rv_word.specs.declared.inst.Inst.{Inst}
use Rattle.rv_word.specs.declared.inst.Inst.TheVariants.{Branch, Jalr, Load}
use Rattle.rv_word.specs.Meaning.{meaning}
use Rattle.cells.specs.declared.Cell.TheVariants.{Byte}
use Rattle.cells.specs.Cells.{Arch, value}
use Rattle.cells.specs.Bytes.{number, word_of}
use Rattle.cells.specs.Run.{State, is_over, iterate, EndsWithin, count_after}
use Rattle.rv_semantics.specs.Values.{register_value}
use Rattle.rv_semantics.specs.Effect.{holds, is_store, sum32, load_size, extended}
use Rattle.rv_semantics.specs.Machine.{word_at}
use Rattle.rv_semantics.specs.Calls.{step, writes}
use Rattle.dist_image.specs.Image.{Premise, Cut, Targets, Dead, Code, Within, Span, Same, Distilled}
use Rattle.image_semantics.specs.World.{task_machine, count_of}
use Rattle.fitting.specs.Claims.{among}
use Rattle.fitting.specs.Fits.{is_analysed, is_anchor_pc}

-- an instruction is a jump by a register
abbrev pub IsRegisterJump : Inst → Type 0
IsRegisterJump (Jalr rd rs1 off) = Unit {0}
IsRegisterJump _ = ⊥

-- it is a branch, and its condition holds exactly where `taken` is true
abbrev pub Branches : Bool → Inst → Arch → Type 0
Branches taken (Branch test rs1 rs2 off) s = holds test (register_value rs1 (value s)) (register_value rs2 (value s)) ≡ taken
Branches taken _ s = ⊥

-- what an instruction loads, extended to 32 bits, is this value; or it loads nothing
abbrev pub loads_as : ℕ → Inst → Arch → Bool
loads_as n (Load kind rd rs1 off) s = nat_eq (extended kind (number (load_size kind) (sum32 (register_value rs1 (value s)) off) s.mem)) n
loads_as n _ s = true

-- the program's word at a pc is the one that memory holds at the start
abbrev pub program : State → ℕ → ℕ
program start pc = word_of start.arch.mem pc

-- the run from a start: the state at position k. It is a position of the run where the run has not ended
module _ (start : State) where
  abbrev pub state_at : ℕ → State
  state_at k = iterate step start k

  abbrev pub arch_at : ℕ → Arch
  arch_at k = (state_at k).arch

  abbrev pub pc_at : ℕ → ℕ
  pc_at k = (state_at k).arch.pc

  -- the instruction fetched there
  abbrev pub fetched_at : ℕ → Inst
  fetched_at k = meaning (word_at (arch_at k))

  -- at each of the first n positions with its pc a pair's value is what is loaded
  abbrev pub IsLoaded : ℕ → ℕ × ℕ → Type 0
  IsLoaded n e = (i : ℕ) → i < n → pc_at i ≡ e.0 → loads_as e.1 (fetched_at i) (arch_at i) ≡ true

  -- the latest position before i at which byte a is written is k
  pub record IsLatestWriter (i a k : ℕ) : Type 0 where
    pub before : k < i
    pub wrote : writes (state_at k) (Byte a) ≡ true
    pub last : (h : ℕ) → k < h → h < i → writes (state_at h) (Byte a) ≡ false

module _ (start : State) (image : Distilled) where
  -- how many of the t positions after i are at an anchor's pc
  abbrev pub arrivals_after : ℕ → ℕ → ℕ
  arrivals_after i t = count_after (λ k. is_anchor_pc image (pc_at start k)) i t

  -- position i + t is the one of number `count` after i at an anchor's pc, and within the task limit
  pub record IsArrival (i count t : ℕ) : Type 0 where
    pub some : 1 ≤ t
    pub near : t ≤ image.limit
    pub going : is_over (state_at start (i + t)) ≡ false
    pub there : is_anchor_pc image (pc_at start (i + t)) ≡ true
    pub number : arrivals_after i t ≡ count

  -- a call that no task does, or an instruction that ends the run, is at position i + t, before the task limit
  pub record IsStop (i t : ℕ) : Type 0 where
    pub near : t < image.limit
    pub going : is_over (state_at start (i + t)) ≡ false
    pub stops : (task_machine image).stops (arch_at start (i + t)) ≡ true

  -- from position i a task comes to the arrival of this number, or to a stop
  abbrev pub IsSpanned : ℕ → ℕ → Type 0
  IsSpanned i count = ((t : ℕ) × IsArrival i count t) ⊎ ((t : ℕ) × IsStop i t)

  -- an assumption fails at position i. The first two and Within speak of steps that a task does alone
  abbrev pub Fails : Premise → ℕ → Type 0
  Fails (Cut at taken) i = (pc_at start i ≡ at) × ((task_machine image).stops (arch_at start i) ≡ false) × Branches taken (fetched_at start i) (arch_at start i)
  Fails (Targets at to) i =
      (pc_at start i ≡ at) × ((task_machine image).stops (arch_at start i) ≡ false) × IsRegisterJump (fetched_at start i) × (among to (pc_at start (suc i)) ≡ false)
  Fails (Dead at) i =
      (a : ℕ) × (k : ℕ) × ((task_machine image).reads (arch_at start i) (Byte a) ≡ true) × IsLatestWriter start i a k × (pc_at start k ≡ at) × (is_store (fetched_at start k) ≡ true)
  Fails Code i = (is_analysed image (pc_at start i) ≡ true) × (word_at (arch_at start i) ≢ program start (pc_at start i))
  Fails Within i =
      (is_analysed image (pc_at start i) ≡ true) × ((task_machine image).stops (arch_at start i) ≡ false) × (is_analysed image (pc_at start (suc i)) ≡ false)
  Fails Span i = (count : ℕ) × (count_of image (pc_at start i) ≡ Some count) × (IsSpanned i count → ⊥)
  Fails (Same at value) i = (pc_at start i ≡ at) × (loads_as value (fetched_at start i) (arch_at start i) ≡ false)

  -- the first n steps meet the list: at no position before n of the run does one of its assumptions fail
  abbrev pub Meets : ℕ → Type 0
  Meets n = (i : ℕ) → i < n → is_over (state_at start i) ≡ false → (k : ℕ) (x : Premise) → slice_get image.assumptions k ≡ Some x → Fails x i → ⊥

  -- position i is the first of the run at which an assumption fails, and assumption k is the first that fails there
  pub record IsBroken (i k : ℕ) : Type 0 where
    pub met : Meets i
    pub going : is_over (state_at start i) ≡ false
    pub fails : (x : Premise) × (slice_get image.assumptions k ≡ Some x) × Fails x i
    pub first : (j : ℕ) (x : Premise) → j < k → slice_get image.assumptions j ≡ Some x → Fails x i → ⊥

  -- what is met reaches a task limit past position p, or to the end of the run
  abbrev pub Reaches : ℕ → ℕ → Type 0
  Reaches n p = (p + image.limit ≤ n) ⊎ EndsWithin (state_at start) n
