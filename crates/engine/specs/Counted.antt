-- Counts after an event, and counts that fit their numbers.
use Rattle.std.specs.Prelude.{◌+◌, ◌<◌, ◌^◌}
use Rattle.speculation.specs.declared.Counts.{Counts}
use Rattle.speculation.specs.declared.Effect.{Effect}
use Rattle.speculation.specs.declared.Event.{Event}
use Rattle.speculation.specs.Engine.{counted_by}

-- the counts after an event with this effect
abbrev pub counted : Event → Effect → Counts → Counts
counted e effect c = record (counted_by e effect c) { events = c.events + 1 }

-- each count fits 64 bits
pub record AreCounts (c : Counts) : Type 0 where
  pub events : c.events < 2 ^ 64
  pub tasks : c.tasks < 2 ^ 64
  pub by_tasks : c.by_tasks < 2 ^ 64
  pub serial : c.serial < 2 ^ 64
  pub squashed : c.squashed < 2 ^ 64
  pub dropped : c.dropped < 2 ^ 64
