-- That a machine comes far enough, and what it has come to then.
use Rattle.std.specs.Prelude.{◌≡◌, ℕ, ◌<◌, true, false}
use Rattle.cells.specs.Run.{is_over}
use Rattle.speculation.specs.declared.Event.{Event}
use Rattle.speculation.specs.World.{World, IsWorld, Spends, seq}
use Rattle.speculation.specs.Engine.{Model}
use Rattle.speculation.specs.Kept.{Holds}
use Rattle.speculation_schedules.specs.Schedule.{in_rounds, alone, after, has_come, IsFirstStop, enough}

-- whatever the events, all that is kept stands after each
abbrev pub AllHold : Type 0
AllHold = (w : World) → IsWorld w → (event : ℕ → Event) (k : ℕ) → Holds w (after w event k)

-- a machine that has not come far enough was given fewer events than are enough
abbrev pub RoundsCome : Type 0
RoundsCome = (w : World) → IsWorld w → Spends w → (far k : ℕ) → has_come far (after w (in_rounds w.slaves) k) ≡ false → k < enough w far

-- by serial steps alone the machine comes to each position, or to its end
abbrev pub StepsCome : Type 0
StepsCome = (w : World) → IsWorld w → (far k : ℕ) → has_come far (after w alone k) ≡ false → k < far

-- where it first has come far enough it stands where the run has ended, no further than asked for; or the run goes on past there
pub record StopsAt (w : World) (models : ℕ → Model) (far k : ℕ) : Type 0 where
  pub is_seq : (models k).committed ≡ seq w (models k).position
  pub ended : is_over (models k).committed ≡ true → (models k).committed ≡ seq w far
  pub went_on : is_over (models k).committed ≡ false → is_over (seq w far) ≡ false

-- where the machine stops, its state is the run's
abbrev pub StopsAreTheRuns : Type 0
StopsAreTheRuns = (w : World) → IsWorld w → is_over w.start ≡ false → (event : ℕ → Event) (far k : ℕ) → IsFirstStop (after w event) far k → StopsAt w (after w event) far k
