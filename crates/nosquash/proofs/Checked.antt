-- Where an event is not safe, a check of the run tells why.
use Rattle.std.proofs.Common.{◌≡◌, ℕ, ◌+◌, ◌<◌, ◌≤◌, ◌⊎◌, inl, inr, Result, Ok, Err, IfOk, true, refl, arith}
use Rattle.std.specs.Prelude.{nat_lt, Bool, false}
use Rattle.std.proofs.lemmas.Bool.Decides.{nat_tests}
use Rattle.cells.specs.Run.{State, is_over}
use Rattle.dist_image.specs.Image.{Distilled}
use Rattle.speculation.specs.declared.Effect.{Effect}
use Rattle.squash_laws.specs.Tracks.{IsSafe}
use Rattle.fitting.specs.Fits.{Fits}
use Rattle.fitting.specs.Fails.{state_at, program, Meets, Reaches}
use Rattle.assume_list.specs.declared.verdict.Verdict.{Verdict}
use Rattle.assume_list.specs.declared.verdict.Verdict.TheVariants.{Met, Broken}
use Rattle.assume_list.specs.Verdicts.{IsVerdict}
use Rattle.nosquash.specs.Laws.{BreaksBefore}

module _ (start : State) (image : Distilled) (position : ℕ) where
  -- where no list that is met reaches far enough
  breaks : (budget : ℕ) (v : Verdict) → ((n : ℕ) → Meets start image n → Reaches start image n position → ⊥) → position + image.limit ≤ budget
      → IsVerdict start image budget v → BreaksBefore v (position + image.limit)
  breaks budget (Met n) none far is = cannot_stop is.0.stops
    where
      cannot_stop : (n ≡ budget) ⊎ (is_over (state_at start n) ≡ true) → ⊥
      cannot_stop (inl e) = none n is.1 (inl (omega (arith, e, far)))
      cannot_stop (inr over) = none n is.1 (inr (n, omega arith, over))
  breaks budget (Broken i k) none far is = must_be_near (nat_lt i (position + image.limit)) refl
    where
      must_be_near : (b : Bool) → nat_lt i (position + image.limit) ≡ b → i < position + image.limit
      must_be_near true e = grind (arith, nat_tests)
      must_be_near false e = absurd (none i is.1.met (inl (grind (arith, nat_tests))))

  pub checked_after : {E : Type 0} (result : Result Effect E)
      → IfOk result (λ effect. Fits (program start) image → (n : ℕ) → Meets start image n → Reaches start image n position → IsSafe effect)
      → IfOk result (λ effect. (IsSafe effect → ⊥) → Fits (program start) image → (budget : ℕ) (v : Verdict) → position + image.limit ≤ budget
      → IsVerdict start image budget v → BreaksBefore v (position + image.limit))
  checked_after (Ok effect) safe = λ bad fits budget v far is. breaks budget v (λ n met reach. bad (safe fits n met reach)) far is
  checked_after (Err x) safe = tt
