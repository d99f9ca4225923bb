-- Rows in a map by their program counters.
use Rattle.std.specs.Prelude.{◌≡◌, ℕ, Bool, map}
use Rattle.indexmap.specs.IndexMap.{IndexMap, keys, values}
use Rattle.profile_data.specs.Profile.{Tally, Profiled, pc_of}

module _ {S : Type 0} where
  -- each key is its row's program counter
  abbrev pub IsKeyed : IndexMap ℕ Tally S → Type 0
  IsKeyed rows = keys rows ≡ map pc_of (values rows)

  -- the profile whose rows a map holds, in their order there
  abbrev pub profiled : ℕ → Bool → IndexMap ℕ Tally S → Profiled
  profiled steps ended rows = record { steps = steps; ended = ended; rows = values rows }
