-- What the verdict on a run says, by the run's positions.
use Rattle.std.specs.Prelude.{◌≡◌, ℕ, ◌<◌, ◌≤◌, false, true, ◌⊎◌}
use Rattle.cells.specs.Run.{State, is_over}
use Rattle.dist_image.specs.Image.{Distilled}
use Rattle.fitting.specs.Fails.{state_at, Meets, IsBroken}
use Rattle.assume_list.specs.declared.verdict.Verdict.{Verdict}
use Rattle.assume_list.specs.declared.verdict.Verdict.TheVariants.{Met, Broken}

-- n is the lesser of a budget and of the run's length
pub record IsLesser (start : State) (budget n : ℕ) : Type 0 where
  pub within : n ≤ budget
  pub going : (k : ℕ) → k < n → is_over (state_at start k) ≡ false
  pub stops : (n ≡ budget) ⊎ (is_over (state_at start n) ≡ true)

-- Broken tells the first position of the run at which an assumption fails, and the first assumption that fails there
abbrev pub IsVerdict : State → Distilled → ℕ → Verdict → Type 0
IsVerdict start image budget (Met n) = IsLesser start budget n × Meets start image n
IsVerdict start image budget (Broken i k) = (i < budget) × IsBroken start image i k

-- there is no other verdict
abbrev pub VerdictIsOne : Type 0
VerdictIsOne = (start : State) (image : Distilled) (budget : ℕ) (v w : Verdict) → IsVerdict start image budget v → IsVerdict start image budget w → v ≡ w
