-- What stands over adaptive runs, whatever makes their images.
use Rattle.std.specs.Prelude.{◌≡◌, ℕ, ◌+◌, ◌*◌, ◌<◌, ◌≤◌, suc, false, Some}
use Rattle.cells.specs.Run.{is_over, iterate}
use Rattle.speculation.specs.Kept.{Holds}
use Rattle.speculation_laws.specs.Told.{Tells}
use Rattle.speculation_schedules.specs.Schedule.{in_rounds, has_come, IsFirstStop}
use Rattle.speculation_schedules.specs.Laws.{StopsAt}
use Rattle.squash_laws.specs.Tracks.{IsSafe}
use Rattle.rv_semantics.specs.Calls.{step}
use Rattle.dist_image.specs.Image.{Distilled, IsImage}
use Rattle.fitting.specs.Fits.{Fits}
use Rattle.fitting.specs.Fails.{program, Meets, Reaches}
use Rattle.adaptive_runs.specs.Adaptive.{Plan, beside, adapted, model_at, image_at, world_at, answer_at}

-- an image with no task longer than `limit`
abbrev pub IsUpTo : ℕ → Distilled → Type 0
IsUpTo limit image = IsImage image × (image.limit ≤ limit)

-- there is a slave, and no image has tasks longer than `limit`. Every image that is made may be hostile: it need not fit
pub record IsPlan (p : Plan) (limit : ℕ) : Type 0 where
  pub some : 0 < p.slaves
  pub first : IsUpTo limit p.first
  pub made : (position : ℕ) (image : Distilled) → p.made position ≡ Some image → IsUpTo limit image

-- all that is kept stands, in the world of the image that event k finds
abbrev pub AdaptedHolds : Type 0
AdaptedHolds = (p : Plan) (limit : ℕ) → IsPlan p limit → (k : ℕ) → Holds (world_at p k) (adapted p k).model

-- what is committed is the sequential run at the committed position
abbrev pub AdaptedIsSequential : Type 0
AdaptedIsSequential = (p : Plan) (limit : ℕ) → IsPlan p limit → (k : ℕ) → (adapted p k).model.committed ≡ iterate step p.start (adapted p k).model.position

-- the committed position never falls
abbrev pub AdaptedRises : Type 0
AdaptedRises = (p : Plan) (limit : ℕ) → IsPlan p limit → (k : ℕ) → (adapted p k).model.position ≤ (adapted p (suc k)).model.position

-- what each answer tells is so
abbrev pub AdaptedTells : Type 0
AdaptedTells =
    (p : Plan) (limit : ℕ) → IsPlan p limit → (k : ℕ) → Tells (world_at p k) (adapted p k).model (in_rounds p.slaves k) (answer_at p k).0 (adapted p (suc k)).model

-- a run that has not come far enough was given fewer events than are enough
abbrev pub AdaptedComes : Type 0
AdaptedComes =
    (p : Plan) (limit : ℕ) → IsPlan p limit → (far k : ℕ) → has_come far (adapted p k).model ≡ false → k < (5 * limit + 7) * far * (p.slaves + 7)

-- where it first has come far enough it stands as the run does: at its end, or past where it was to come by less than the longest task
abbrev pub AdaptedStops : Type 0
AdaptedStops =
    (p : Plan) (limit : ℕ) → IsPlan p limit → is_over p.start ≡ false → (far k : ℕ) → 0 < far → IsFirstStop (model_at p) far k
    → StopsAt (beside p p.first) (model_at p) far k × ((model_at p k).position < far + limit)

-- of the images only that of the event need fit, and only its list is to be met
abbrev pub AdaptedIsSafe : Type 0
AdaptedIsSafe =
    (p : Plan) (limit : ℕ) → IsPlan p limit → (k n : ℕ) → Fits (program p.start) (image_at p k) → Meets p.start (image_at p k) n
    → Reaches p.start (image_at p k) n (adapted p k).model.position → IsSafe (answer_at p k).0
