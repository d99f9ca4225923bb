-- Events in worlds that give way to one another between rounds: the image of a machine is exchanged.
use Rattle.std.specs.Prelude.{◌≡◌, ℕ, ◌+◌, ◌*◌, ◌%◌, ◌<◌, ◌≤◌, zero, suc, ◌⊎◌, Bool, false}
use Rattle.speculation.specs.declared.Event.{Event}
use Rattle.speculation.specs.declared.Mode.TheVariants.{Serial}
use Rattle.speculation.specs.World.{World, IsWorld, Spends, seq}
use Rattle.speculation.specs.Engine.{Model, happens, fresh}
use Rattle.speculation.specs.Kept.{Holds}
use Rattle.speculation_schedules.specs.Schedule.{in_rounds, has_come}

-- the model after the first k events, each in a world of its own
unfoldable pub after_each : (ℕ → World) → (ℕ → Event) → ℕ → Model
after_each w event zero = fresh (w 0)
after_each w event (suc k) = (happens (w k) (after_each w event k) (event k)).1

-- the worlds are of one run, and one gives way to another only where nothing is speculated on
pub record AreExchanged (w : ℕ → World) (event : ℕ → Event) : Type 0 where
  pub known : (k : ℕ) → IsWorld (w k)
  pub run : (k n : ℕ) → seq (w (suc k)) n ≡ seq (w k) n
  pub serial : (k : ℕ) → (w (suc k) ≡ w k) ⊎ ((debt : Bool) × ((after_each w event (suc k)).mode ≡ Serial debt))

-- in rounds: over so many slaves, with no task longer than `limit`, and one world for each round
pub record AreInRounds (w : ℕ → World) (slaves limit : ℕ) : Type 0 where
  pub exchanged : AreExchanged w (in_rounds slaves)
  pub spends : (k : ℕ) → Spends (w k)
  pub limits : (k : ℕ) → (w k).limit ≤ limit
  pub many : (k : ℕ) → (w k).slaves ≡ slaves
  pub whole : (k : ℕ) → (suc k % (slaves + 7) ≡ 0 → ⊥) → w (suc k) ≡ w k

-- whatever the events, all that is kept stands after each
abbrev pub AllHoldExchanged : Type 0
AllHoldExchanged = (w : ℕ → World) (event : ℕ → Event) → AreExchanged w event → (k : ℕ) → Holds (w k) (after_each w event k)

-- in rounds, a machine that has not come far enough was given fewer events than are enough
abbrev pub ExchangedRoundsCome : Type 0
ExchangedRoundsCome =
    (w : ℕ → World) (slaves limit : ℕ) → AreInRounds w slaves limit → (far k : ℕ)
    → has_come far (after_each w (in_rounds slaves) k) ≡ false → k < (5 * limit + 7) * far * (slaves + 7)
