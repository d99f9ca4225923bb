-- How far a run was looked at.
use Rattle.std.specs.Prelude.{◌≡◌, ℕ, ◌+◌, ◌<◌, ◌≤◌, false, length, Option}
use Rattle.std.specs.Ordering.{nat_cmp}
use Rattle.std.specs.BTreeMap.{get}
use Rattle.cells.specs.Cells.{IsPc}
use Rattle.cells.specs.Bytes.{word_of}
use Rattle.cells.specs.Run.{State, is_over}
use Rattle.memory.specs.declared.Memory.{Ghosts}
use Rattle.seq_machine.specs.declared.machine.Machine.{Machine}
use Rattle.seq_machine.specs.States.{state_of, arch_at}
use Rattle.fitting.specs.Fails.{state_at, pc_at}
use Rattle.profile_laws.specs.Profiles.{steps}
use Rattle.load_values.specs.declared.loads.Loads.{Loads}
use Rattle.load_values.specs.declared.loads.Found.{Found}
use Rattle.load_values.specs.declared.sight.Sight.{Sight}
use Rattle.load_values.specs.Found.{loading}
use Rattle.load_values.specs.Sights.{known_at, executed_count, sight_of, newly}

-- the count is that of the addresses, and a list of values can hold them
pub record AreFew (loads : Loads) : Type 0 where
  pub count : loads.count ≡ executed_count loads.found.entries
  pub few : loads.count ≤ 524_288

-- what is known of the load at a pc
abbrev pub known_of : Loads → ℕ → Option Found
known_of loads pc = get nat_cmp loads.found pc

-- what is known of the loads at other pcs stays
abbrev pub OthersStay : ℕ → Loads → Loads → Type 0
OthersStay pc old new = (q : ℕ) → (q ≡ pc → ⊥) → known_of new q ≡ known_of old q

-- at how many pcs a load was executed, once this is seen at a pc
abbrev pub count_after : Sight → ℕ → Loads → ℕ
count_after sight pc loads = loads.count + newly sight (known_of loads pc)

-- what the position of a machine tells, where a memory has the program's words
abbrev pub sight_here : {M : Type 0} {d : Ghosts M} → (M → ℕ → ℕ) → M → Machine M d → Sight
sight_here at program m = sight_of (word_of (at m.arch.mem) m.arch.pc) (word_of (at program) m.arch.pc) (arch_at at m.arch)

-- the machine is at position k of the run from a start, and the loads are those of the positions before
pub record IsCounted {M : Type 0} {d : Ghosts M} (at : M → ℕ → ℕ) (start : State) (k : ℕ) (machine : Machine M d) (loads : Loads) : Type 0 where
  pub position : machine.position ≡ k
  pub state : state_of at machine ≡ state_at start k
  pub found : (p : ℕ) → get nat_cmp loads.found p ≡ known_at start p k
  pub count : loads.count ≡ length (loading start k)
  pub few : AreFew loads
  pub going : (i : ℕ) → i < k → is_over (state_at start i) ≡ false
  pub pcs : (i : ℕ) → i ≤ k → IsPc (pc_at start i)

-- the machine is at the position after as many steps as a budget has, or at the end of the run
abbrev pub IsCountedWithin : {M : Type 0} {d : Ghosts M} → (M → ℕ → ℕ) → State → ℕ → Machine M d → Loads → Type 0
IsCountedWithin at start budget machine loads = IsCounted at start (steps start budget) machine loads
