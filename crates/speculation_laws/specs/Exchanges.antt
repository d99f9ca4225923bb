-- Rounds in worlds that follow one another: of one run, each with an image of its own.
use Rattle.std.specs.Prelude.{◌≡◌, ℕ, ◌+◌, ◌*◌, ◌<◌, ◌≤◌, zero, suc, ◌⊎◌, Bool, true, false}
use Rattle.cells.specs.Run.{is_over}
use Rattle.speculation.specs.declared.Mode.TheVariants.{Serial}
use Rattle.speculation.specs.World.{World, IsWorld, Spends, seq}
use Rattle.speculation.specs.Engine.{Model, run}
use Rattle.speculation.specs.Kept.{Holds}
use Rattle.speculation.specs.Rounds.{round}

-- the model after k rounds, the first of them in world j
abbrev pub rounds_in : (ℕ → World) → ℕ → ℕ → Model → Model
rounds_in w j zero m = m
rounds_in w j (suc k) m = rounds_in w (suc j) k (run (w j) (round (w j).slaves) m)

-- the worlds have one run, and none has tasks longer than `limit`
pub record AreWorlds (w : ℕ → World) (limit : ℕ) : Type 0 where
  pub known : (j : ℕ) → IsWorld (w j)
  pub spends : (j : ℕ) → Spends (w j)
  pub limits : (j : ℕ) → (w j).limit ≤ limit
  pub run : (j k : ℕ) → seq (w (suc j)) k ≡ seq (w j) k

-- from world j and this model on, a world gives way to another only where nothing is speculated on
abbrev pub Exchange : (ℕ → World) → ℕ → Model → Type 0
Exchange w j m = (k : ℕ) → (w (j + suc k) ≡ w (j + k)) ⊎ ((debt : Bool) × ((rounds_in w j (suc k) m).mode ≡ Serial debt))

-- in rounds the position rises while the machine has not ended, whatever the worlds
abbrev pub ExchangesGain : Type 0
ExchangesGain =
    (w : ℕ → World) (limit : ℕ) → AreWorlds w limit → (j : ℕ) (m : Model) → Holds (w j) m → Exchange w j m → is_over m.committed ≡ false
    → (k : ℕ) × (k ≤ 5 * limit + 7) × (m.position < (rounds_in w j k m).position)

-- so each distance is come over, or the machine ends before
abbrev pub ExchangesReach : Type 0
ExchangesReach =
    (w : ℕ → World) (limit : ℕ) → AreWorlds w limit → (j : ℕ) (m : Model) → Holds (w j) m → Exchange w j m → (far : ℕ)
    → (k : ℕ) × (k ≤ (5 * limit + 7) * far) × ((is_over (rounds_in w j k m).committed ≡ true) ⊎ (m.position + far ≤ (rounds_in w j k m).position))
