-- What is laid of a program counter: each analysed instruction with its own masks.
use Rattle.std.proofs.Common.{◌≡◌, ℕ, List, [], ◌∷◌, map, zip, refl, sym, ap, ◌∙◌}
use Rattle.profile_data.specs.Profile.{Tally}
use Rattle.distill_rules.specs.declared.Mask.{Mask}
use Rattle.distill_rules.specs.Analysed.{analysed}
use Rattle.distill_rules.specs.Cuts.{Cuts}
use Rattle.distill_rules.specs.Flow.{site, graph}
use Rattle.distill_rules.specs.Points.{point, points}
use Rattle.distill_rules.specs.Rounds.{Point, step, round, solved}
use Rattle.distill_rules.specs.Solution.{AreFit}
use Rattle.distill_rules.proofs.Fitting.{HaveWords, points_fit}
use Rattle.distill_rules.proofs.Settling.{solved_settled}
use Rattle.layout_rules.specs.declared.SlotPlan.{SlotPlan}
use Rattle.layout_rules.specs.Images.{plot, plots}
use Rattle.distill_fits.specs.Laws.{AreWords}

module _ (word : ℕ → ℕ) (rows : List Tally) (c : Cuts) (begun : List ℕ) where
  abbrev pub point_at : ℕ → Point
  point_at pc = point c begun (site word rows c pc)

  abbrev pub all_points : List Point
  all_points = points c begun (graph word rows c)

  -- the masks after all rounds
  abbrev pub all_masks : List Mask
  all_masks = solved all_points

  -- an instruction, with what a round over a table says of it
  abbrev pub plot_at : List Mask → ℕ → SlotPlan
  plot_at t pc = plot c begun (site word rows c pc, step t (point_at pc))

  beside : (t : List Mask) (pcs : List ℕ)
      → map (plot c begun) (zip (map (site word rows c) pcs) (map (step t) (map (point c begun) (map (site word rows c) pcs)))) ≡ map (plot_at t) pcs
  beside t [] = refl
  beside t (pc ∷ pcs) = ap (λ ps. plot_at t pc ∷ ps) (beside t pcs)

  have_words : AreWords word → (pcs : List ℕ) → HaveWords (map (site word rows c) pcs)
  have_words small [] = tt
  have_words small (pc ∷ pcs) = (small pc, have_words small pcs)

  pub are_fit : AreWords word → AreFit all_points
  are_fit small = points_fit c begun (map (site word rows c) (analysed rows)) (have_words small (analysed rows))

  pub settled : AreWords word → round all_points all_masks ≡ all_masks
  settled small = solved_settled all_points (are_fit small)

  pub plots_are : AreWords word → plots c begun (graph word rows c) all_masks ≡ map (plot_at all_masks) (analysed rows)
  plots_are small = ap (plots c begun (graph word rows c)) (sym (settled small)) ∙ beside all_masks (analysed rows)
