-- What the rules assume of a profile, against the run that the profile is of.
use Rattle.std.specs.Prelude.{◌≡◌, ℕ, ◌<◌, suc, Bool, true, false, List, Some, All}
use Rattle.rv_word.specs.Meaning.{meaning}
use Rattle.cells.specs.Run.{State, is_over}
use Rattle.profile_data.specs.Profile.{Tally, Profiled}
use Rattle.dist_image.specs.Image.{Premise, Cut, Targets, Dead, Code, Within, Distilled, prints_at}
use Rattle.fitting.specs.Claims.{among}
use Rattle.fitting.specs.Fits.{is_analysed}
use Rattle.fitting.specs.Fails.{program, state_at, Fails}
use Rattle.profile_laws.specs.Profiles.{with_mark, IsProfileOf}
use Rattle.distill_rules.specs.Analysed.{analysed, analysed_row}
use Rattle.distill_rules.specs.Cuts.{Cuts, cut_at, is_dead, cuts, is_write}
use Rattle.distill_rules.specs.Flow.{Site, targets_by, graph}

-- no other word than the program's was executed at any pc
abbrev pub AreUnchanged : List Tally → Type 0
AreUnchanged rows = All (λ (t : Tally). t.changed ≡ false) rows

-- the image has notes at the analysed pcs and at no others
abbrev pub IsNotedAs : Distilled → List Tally → Type 0
IsNotedAs image rows = (pc : ℕ) → is_analysed image pc ≡ among (analysed rows) pc

-- a task may print only at the calls that the rules name
abbrev pub IsPrintedAs : Distilled → (ℕ → ℕ) → List Tally → Type 0
IsPrintedAs image word rows = (pc : ℕ) → prints_at image pc ≡ true → is_write word rows pc ≡ true

-- it fails at no position before n
abbrev pub HoldsBefore : State → Distilled → ℕ → Premise → Type 0
HoldsBefore start image n x = (i : ℕ) → i < n → Fails start image x i → ⊥

-- What the rules assume of these rows, with `rare` 0, holds at the first n positions. Where an instruction leads is known only
-- where its next one has a row: the last of n has none, unless the run ends there
pub record IsExact (start : State) (image : Distilled) (rows : List Tally) (n : ℕ) : Type 0 where
  pub cut : (pc : ℕ) (taken : Bool) → cut_at (program start) rows 0 pc ≡ Some taken → HoldsBefore start image n (Cut pc taken)
  pub targets : (pc : ℕ) (to : List ℕ) → targets_by (meaning (program start pc)) (analysed_row rows pc) ≡ Some to
      → HoldsBefore start image n (Targets pc to)
  pub dead : (pc : ℕ) → is_dead (program start) rows pc ≡ true → HoldsBefore start image n (Dead pc)
  pub code : HoldsBefore start image n Code
  pub within : AreUnchanged rows → (i : ℕ) → suc i < n → Fails start image Within i → ⊥
  pub within_ended : AreUnchanged rows → is_over (state_at start n) ≡ true → HoldsBefore start image n Within

-- what the rules assume of the profile of n steps holds in them
abbrev pub DistillsExactly : Type 0
DistillsExactly =
    (calls : Bool) (start : State) (n : ℕ) (p : Profiled) (image : Distilled) → IsProfileOf (with_mark calls) start n p → IsNotedAs image p.rows
    → IsPrintedAs image (program start) p.rows → IsExact start image p.rows n

-- what stands in the lists of a distiller stands there by the rules: each cut side, each dead store, and each analysed
-- instruction with its word
pub record ListsFollow (word : ℕ → ℕ) (rows : List Tally) : Type 0 where
  pub cut : (rare : ℕ) → All (λ (e : ℕ × Bool). cut_at word rows rare e.0 ≡ Some e.1) (cuts word rows rare).cut
  pub dead : (rare : ℕ) → All (λ (pc : ℕ). is_dead word rows pc ≡ true) (cuts word rows rare).dead
  pub words : (c : Cuts) → All (λ (s : Site). s.word ≡ word s.pc) (graph word rows c).spots

-- what stands in the lists stands there by the rules
abbrev pub ListsFollowRules : Type 0
ListsFollowRules = (word : ℕ → ℕ) (rows : List Tally) → ListsFollow word rows
