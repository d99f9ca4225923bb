-- Adaptive runs: rounds of events beside an image that is made anew of the run so far, wherever one is due.
use Rattle.std.specs.Prelude.{ℕ, ◌+◌, ◌%◌, ◌==◌, ◌&&◌, not, nat_le, zero, suc, Bool, if◌then◌else◌, Option, unwrap_or}
use Rattle.cells.specs.Run.{State, is_over}
use Rattle.speculation.specs.World.{World}
use Rattle.speculation.specs.Engine.{Model, Answer, happens, fresh}
use Rattle.speculation_laws.specs.Told.{is_speculating}
use Rattle.speculation_schedules.specs.Schedule.{in_rounds}
use Rattle.dist_image.specs.Image.{Distilled}
use Rattle.image_semantics.specs.World.{world}

-- what an adaptive run is given: where it starts, how many slaves it has, and `first`, its image at first. An image is due every
-- so many steps, and `made` is that of the first so many steps of the run, if there is one
pub record Plan : Type 0 where
  pub start : State
  pub slaves : ℕ
  pub every : ℕ
  pub first : Distilled
  pub made : ℕ → Option Distilled

-- the model, the image that it had at its last event, and the position from which on the next is due
pub record Stage : Type 0 where
  pub model : Model
  pub image : Distilled
  pub due : ℕ

module _ (p : Plan) where
  -- the world beside an image
  abbrev pub beside : Distilled → World
  beside image = world p.start image p.slaves

  -- a round begins with event k, nothing is speculated on, and the run goes on
  abbrev pub may_exchange : ℕ → Model → Bool
  may_exchange k m = (k % (p.slaves + 7) == 0) && not (is_speculating m.mode) && not (is_over m.committed)

  -- where an image is due it is asked for: that of the steps up to the committed position takes the place of the one before, if
  -- there is one, and the next is due so many steps later in either case
  abbrev pub renewed : Stage → Stage
  renewed a =
      if nat_le a.due a.model.position
      then record { model = a.model; image = unwrap_or (p.made a.model.position) a.image; due = a.model.position + p.every }
      else a

  -- before event k
  abbrev pub ready : ℕ → Stage → Stage
  ready k a = if may_exchange k a.model then renewed a else a

  -- event k itself, beside the image of that moment
  abbrev pub given : ℕ → Stage → Answer
  given k a = happens (beside a.image) a.model (in_rounds p.slaves k)

  -- after event k
  abbrev pub advanced : ℕ → Stage → Stage
  advanced k a = record a { model = (given k a).1 }

  -- after the first k events
  unfoldable pub adapted : ℕ → Stage
  adapted zero = record { model = fresh (beside p.first); image = p.first; due = p.every }
  adapted (suc k) = advanced k (ready k (adapted k))

  -- its model then
  abbrev pub model_at : ℕ → Model
  model_at k = (adapted k).model

  -- the image of event k, its world, and what the event answers
  abbrev pub image_at : ℕ → Distilled
  image_at k = (ready k (adapted k)).image

  abbrev pub world_at : ℕ → World
  world_at k = beside (image_at k)

  abbrev pub answer_at : ℕ → Answer
  answer_at k = given k (ready k (adapted k))
