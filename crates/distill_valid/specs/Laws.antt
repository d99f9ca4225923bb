-- Distilled images are valid.
use Rattle.std.specs.Prelude.{ℕ, ◌≤◌, List}
use Rattle.dist_image.specs.Image.{IsImage}
use Rattle.profile_data.specs.Profile.{Profiled, IsProfile}
use Rattle.layout_rules.specs.declared.Options.{Options}
use Rattle.layout_rules.specs.Images.{distilled}
use Rattle.distill_fits.specs.Laws.{AreWords, AreLoads}

-- the image of any profile is valid, where the task limit is in its range
abbrev pub DistilledIsImage : Type 0
DistilledIsImage =
    (word : ℕ → ℕ) (entry : ℕ) (f : Profiled) (same : List (ℕ × ℕ)) (o : Options) → AreWords word → IsProfile f → AreLoads word same
    → 16 ≤ o.limit → o.limit ≤ 16_384 → IsImage (distilled word entry f same o)
