-- Events without end, and the first point at which a machine that is given them has come far enough.
use Rattle.std.specs.Prelude.{◌≡◌, ℕ, ◌+◌, ◌*◌, ◌<◌, ◌%◌, zero, suc, Bool, true, false, ◌||◌, nat_le, slice_index_or}
use Rattle.cells.specs.Run.{is_over}
use Rattle.speculation.specs.declared.Event.{Event}
use Rattle.speculation.specs.declared.Event.TheVariants.{Serial, Commit}
use Rattle.speculation.specs.World.{World}
use Rattle.speculation.specs.Engine.{Model, happens, fresh}
use Rattle.speculation.specs.Rounds.{round}

-- the event at each place of rounds that follow one another
abbrev pub in_rounds : ℕ → ℕ → Event
in_rounds slaves k = slice_index_or (round slaves) (k % (slaves + 7)) Commit

-- serial steps alone
abbrev pub alone : ℕ → Event
alone k = Serial

-- the model after the first k events
unfoldable pub after : World → (ℕ → Event) → ℕ → Model
after w event zero = fresh w
after w event (suc k) = (happens w (after w event k) (event k)).1

-- the machine has ended, or stands at this position or past it
abbrev pub has_come : ℕ → Model → Bool
has_come far m = is_over m.committed || nat_le far m.position

-- k is the least number of events after which it has, where these are the models after each number of events
pub record IsFirstStop (models : ℕ → Model) (far k : ℕ) : Type 0 where
  pub there : has_come far (models k) ≡ true
  pub first : (j : ℕ) → j < k → has_come far (models j) ≡ false

-- how many events are enough in rounds, for a task limit and a number of slaves
abbrev pub enough : World → ℕ → ℕ
enough w far = (5 * w.limit + 7) * far * (w.slaves + 7)
