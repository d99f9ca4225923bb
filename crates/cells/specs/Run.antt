-- The whole state of a run, and steps one after another.
use Rattle.std.specs.Prelude.{◌≡◌, ℕ, ◌+◌, ◌≤◌, zero, suc, Bool, true, false, cond, List, ◌++◌, Option, Some, None}
use Rattle.cells.specs.declared.End.{End}
use Rattle.cells.specs.Cells.{Arch}
use Rattle.cells.specs.Machine.{Machine}

-- what calls and ends alone touch: the input and how much of it was taken, the output, the first break and the break
-- of the heap, and the end once there is one
pub record Env : Type 0 where
  pub input : List ℕ
  pub taken : ℕ
  pub output : List ℕ
  pub first_break : ℕ
  pub brk : ℕ
  pub over : Option End

-- a state of a run: registers, pc and memory, and what lies around them
pub record State : Type 0 where
  pub arch : Arch
  pub env : Env

-- whether a run has an end
abbrev pub is_end : Option End → Bool
is_end None = false
is_end (Some e) = true

-- whether a state's run has ended
abbrev pub is_over : State → Bool
is_over s = is_end s.env.over

-- with these bytes appended to the output
abbrev pub printed : Env → List ℕ → Env
printed e bytes = record e { output = e.output ++ bytes }

-- one step of a machine, where `call` is what a call or an end does. An ended state is its own step
abbrev pub step_by : Machine → (State → State) → State → State
step_by m call s =
    cond (is_over s) s (
    cond (m.stops s.arch) (call s) (record { arch = m.move s.arch; env = printed s.env (m.says s.arch) }))

-- f so many times
abbrev pub iterate : {A : Type 0} → (A → A) → A → ℕ → A
iterate f s zero = s
iterate f s (suc k) = f (iterate f s k)

-- the run that is at seq k after k steps ends within n of them
abbrev pub EndsWithin : (ℕ → State) → ℕ → Type 0
EndsWithin seq n = (e : ℕ) × (e ≤ n) × (is_over (seq e) ≡ true)

-- how many of the d positions after o pass
abbrev pub count_after : (ℕ → Bool) → ℕ → ℕ → ℕ
count_after test o zero = 0
count_after test o (suc d) = cond (test (suc (o + d))) 1 0 + count_after test o d
