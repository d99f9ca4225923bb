-- What no squash means for a whole run.
use Rattle.std.specs.Prelude.{◌≡◌, ℕ, ◌<◌}
use Rattle.cells.specs.Run.{State, EndsWithin}
use Rattle.speculation.specs.declared.Event.{Event}
use Rattle.dist_image.specs.Image.{Distilled, IsImage}
use Rattle.image_semantics.specs.World.{world}
use Rattle.fitting.specs.Fits.{Fits}
use Rattle.fitting.specs.Fails.{state_at, program, Meets}
use Rattle.assume_list.specs.declared.verdict.Verdict.{Verdict}
use Rattle.assume_list.specs.declared.verdict.Verdict.TheVariants.{Met, Broken}
use Rattle.speculation_schedules.specs.Schedule.{after}

-- with an image that fits and a run that meets its list to the end, nothing is counted as squashed or given up, whatever the events
abbrev pub RunsLoseNothing : Type 0
RunsLoseNothing =
    (start : State) (image : Distilled) (slaves n : ℕ) → IsImage image → 0 < slaves → Fits (program start) image → Meets start image n → EndsWithin (state_at start) n
    → (event : ℕ → Event) (k : ℕ)
    → ((after (world start image slaves) event k).counts.squashed ≡ 0) × ((after (world start image slaves) event k).counts.dropped ≡ 0)

-- the verdict on a run tells an assumption that is broken before this position
abbrev pub BreaksBefore : Verdict → ℕ → Type 0
BreaksBefore (Met n) far = ⊥
BreaksBefore (Broken i k) far = i < far
