-- What a profile holds, and which profiles are valid.
use Rattle.std.specs.Prelude.{◌≡◌, ℕ, ◌^◌, ◌<◌, ◌≤◌, ◌==◌, nat_eq, Bool, List, length, map, find, Option, All}
use Rattle.std.specs.List.{sum_by, IsDistinct}
use Rattle.std.specs.List.Sorted.{IsStrictlyIncreasing}
use Rattle.cells.specs.Cells.{IsPc}

-- what was counted at a program counter: how often its instruction was executed, and how often its branch was taken;
-- whether what it stored was read, and whether another word than the program's was executed there; where its indirect jump went
pub record Tally : Type 0 where
  pub pc : ℕ
  pub executed : ℕ
  pub taken : ℕ
  pub read : Bool
  pub changed : Bool
  pub targets : List ℕ

-- a number of steps, whether the run ended with them, and a tally of each program counter, in the order of first execution
pub record Profiled : Type 0 where
  pub steps : ℕ
  pub ended : Bool
  pub rows : List Tally

-- the pc of a row
abbrev pub pc_of : Tally → ℕ
pc_of t = t.pc

-- how often a row's instruction was executed
abbrev pub executed_of : Tally → ℕ
executed_of t = t.executed

-- how many targets are listed in all
abbrev pub target_count : List Tally → ℕ
target_count rows = sum_by (λ (t : Tally). length t.targets) rows

-- the row of a program counter, if there is one
abbrev pub row_at : List Tally → ℕ → Option Tally
row_at rows pc = find (λ (t : Tally). t.pc == pc) rows

-- A valid row. It was executed, and a branch is taken no more often than it is executed.
pub record IsTally (t : Tally) : Type 0 where
  pub pc : IsPc t.pc
  pub executed : 1 ≤ t.executed
  pub taken : t.taken ≤ t.executed
  pub targets : All IsPc t.targets
  pub targets_rise : IsStrictlyIncreasing t.targets

-- A valid profile: each step executed the instruction of one row. The steps are counted in 64 bits.
pub record IsProfile (profile : Profiled) : Type 0 where
  pub steps : profile.steps < 2 ^ 64
  pub few_rows : length profile.rows ≤ 524_288
  pub few_targets : target_count profile.rows ≤ 1_048_576
  pub rows : All IsTally profile.rows
  pub distinct : IsDistinct nat_eq (map pc_of profile.rows)
  pub sum : sum_by executed_of profile.rows ≡ profile.steps
