-- The law, of a profile that is valid.
use Rattle.std.proofs.Common.{ℕ, ◌≤◌, min, max, arith, subst}
use Rattle.std.proofs.lemmas.List.Elements.{recursion_from_All}
use Rattle.dist_image.specs.Image.{IsImage}
use Rattle.profile_data.specs.Profile.{IsTally}
use Rattle.layout_rules.specs.Images.{places_of}
use Rattle.distill_fits.specs.Laws.{IsLoadOf}
use Rattle.distill_fits.proofs.Laws.{analysed_is_pc}
use Rattle.distill_fits.proofs.Made.{distilled_is}
use Rattle.distill_valid.specs.Laws.{DistilledIsImage}
use Rattle.distill_valid.proofs.Valid.{image_valid}

-- how many arrivals a task spans
count_small : (n : ℕ) → (1 ≤ max 1 (min 64 n)) × (max 1 (min 64 n) ≤ 64)
count_small n = (omega arith, omega arith)

pub distilled_is_image : DistilledIsImage
distilled_is_image word entry f same o small valid loads least greatest =
    let a = places_of word entry f same o in
    let range : (1 ≤ a.count) × (a.count ≤ 64) = count_small _ in
    subst IsImage (distilled_is word entry f same o small)
    (image_valid word f.rows o.rare same a.pcs a.count o.limit small (analysed_is_pc f valid) valid.distinct (recursion_from_All (IsLoadOf word) same loads) (recursion_from_All IsTally f.rows valid.rows)
    valid.few_rows valid.few_targets range.0 range.1 least greatest)
