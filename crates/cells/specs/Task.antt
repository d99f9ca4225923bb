-- A task: a checkpoint and a number of steps. Its record and its writes are read off the steps from the checkpoint.
use Rattle.std.specs.Prelude.{◌≡◌, ℕ, ◌<◌, zero, suc, Bool, true, false, ◌||◌, ◌&&◌, not, cond, List, [], ◌++◌, Option, Some, None}
use Rattle.cells.specs.declared.Cell.{Cell}
use Rattle.cells.specs.Cells.{Arch, value, is_pc, from_cells}
use Rattle.cells.specs.Machine.{Machine}
use Rattle.cells.specs.Run.{iterate}

-- t steps from c
abbrev pub moves : Machine → Arch → ℕ → Arch
moves m c t = iterate m.move c t

-- what t steps from c print
abbrev pub said : Machine → Arch → ℕ → List ℕ
said m c zero = []
said m c (suc t) = said m c t ++ m.says (moves m c t)

-- some step before the t-th writes x
abbrev pub written : Machine → Arch → ℕ → Cell → Bool
written m c zero x = false
written m c (suc t) x = written m c t x || m.writes (moves m c t) x

-- x is Pc, or some step before the t-th reads it where no step before that writes it
abbrev pub recorded : Machine → Arch → ℕ → Cell → Bool
recorded m c zero x = is_pc x
recorded m c (suc t) x = recorded m c t x || (m.reads (moves m c t) x && not (written m c t x))

-- the recorded cells, with their values in the checkpoint
abbrev pub recorded_values : Machine → Arch → ℕ → Cell → Option ℕ
recorded_values m c t x = cond (recorded m c t x) (Some (value c x)) None

-- no step before the t-th is at a call or an end
abbrev pub IsQuiet : Machine → Arch → ℕ → Type 0
IsQuiet m c t = (i : ℕ) → i < t → m.stops (moves m c i) ≡ false

-- s has the recorded values
abbrev pub Matches : Machine → Arch → ℕ → Arch → Type 0
Matches m c t s = (x : Cell) → recorded m c t x ≡ true → value s x ≡ value c x

-- s with the task's writes and pc
abbrev pub applied : Machine → Arch → ℕ → Arch → Cell → ℕ
applied m c t s x = cond (is_pc x || written m c t x) (value (moves m c t) x) (value s x)

-- a state with the task's puts
unfoldable pub apply : Machine → Arch → ℕ → Arch → Arch
apply m c t s = from_cells (applied m c t s)
