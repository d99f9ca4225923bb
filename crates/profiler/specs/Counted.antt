-- How far a run was profiled.
use Rattle.std.specs.Prelude.{◌≡◌, ℕ, ◌+◌, ◌<◌, ◌≤◌, Bool, false}
use Rattle.cells.specs.Cells.{IsPc}
use Rattle.cells.specs.Run.{State, is_over}
use Rattle.memory.specs.declared.Memory.{Ghosts}
use Rattle.rv_semantics.specs.Start.{start}
use Rattle.seq_machine.specs.declared.machine.Machine.{Machine}
use Rattle.seq_machine.specs.States.{state_of}
use Rattle.fitting.specs.Fails.{state_at, pc_at}
use Rattle.profile_data.specs.Profile.{Profiled}
use Rattle.profile_laws.specs.Profiles.{steps, with_mark, IsProfileOf, IsWide}
use Rattle.profile_laws.specs.Tally.{kept}
use Rattle.profiler.specs.declared.tally.Tally.{Tally as CodeTally}
use Rattle.profiler.specs.declared.recording.Recording.{Recording}
use Rattle.profiler.specs.Tally.{kept_of, IsTally}

-- the machine is at position k of the run from a start, and the tally is that of the positions before, where short writes are
-- counted at the pcs that pass
pub record IsCounted {M : Type 0} {d : Ghosts M} (at : M → ℕ → ℕ) (prints : ℕ → Bool) (start : State) (k : ℕ) (machine : Machine M d) (tally : CodeTally M) : Type 0 where
  pub position : machine.position ≡ k
  pub state : state_of at machine ≡ state_at start k
  pub rows : kept_of at tally ≡ kept prints start k
  pub tallied : IsTally at tally
  pub going : (i : ℕ) → i < k → is_over (state_at start i) ≡ false
  pub pcs : (i : ℕ) → i ≤ k → IsPc (pc_at start i)

-- where a run that is recorded began: the entry and the memory are kept, and the machine keeps the input and the first break
abbrev pub began : {M : Type 0} {d : Ghosts M} → (M → ℕ → ℕ) → Recording M d → State
began at r = start (record { entry = r.entry; mem = at r.program; first_break = r.machine.first_break }) r.machine.input.items

-- all steps up to its position were counted
abbrev pub IsRecorded : {M : Type 0} {d : Ghosts M} → (M → ℕ → ℕ) → Recording M d → Type 0
IsRecorded at r = IsCounted at (with_mark r.calls) (began at r) r.machine.position r.machine r.tally

-- the first n steps of a run that is recorded execute too many rows, or go to too many targets
abbrev pub IsWideAfter : {M : Type 0} {d : Ghosts M} → (M → ℕ → ℕ) → Recording M d → ℕ → Type 0
IsWideAfter at r n = IsWide (kept (with_mark r.calls) (began at r) n).rows

-- with one step more, they would
abbrev pub IsNextWide : {M : Type 0} {d : Ghosts M} → (M → ℕ → ℕ) → Recording M d → Type 0
IsNextWide at r = IsWideAfter at r (r.machine.position + 1)

-- within as many steps as a budget has, or to the end of the run, they do
abbrev pub IsWideWithin : {M : Type 0} {d : Ghosts M} → (M → ℕ → ℕ) → Recording M d → ℕ → Type 0
IsWideWithin at r budget = IsWideAfter at r (steps (began at r) budget)

-- a profile is that of the steps that were recorded
abbrev pub IsProfileSoFar : {M : Type 0} {d : Ghosts M} → (M → ℕ → ℕ) → Recording M d → Profiled → Type 0
IsProfileSoFar at r f = IsProfileOf (with_mark r.calls) (began at r) r.machine.position f

-- a profile is that of the run from a start over as many steps as a budget has, or over those to its end
abbrev pub IsProfileWithin : Bool → State → ℕ → Profiled → Type 0
IsProfileWithin calls start budget f = IsProfileOf (with_mark calls) start (steps start budget) f
