-- The laws, of a profile that is valid.
use Rattle.std.proofs.Common.{◌≡◌, ℕ, true, map, subst, Some, sym, ap, ◌∙◌, ◌↔◌}
use Rattle.cells.specs.Cells.{IsPc}
use Rattle.std.proofs.lemmas.List.Elements.{recursion_from_All}
use Rattle.dist_image.specs.Image.{Premise, Cut, Targets, Dead, Same, Distilled}
use Rattle.profile_data.specs.Profile.{IsTally, Profiled, IsProfile}
use Rattle.fitting.specs.Claims.{Claims, among, claims}
use Rattle.fitting.specs.Fits.{Fits, IsListed, is_analysed}
use Rattle.distill_rules.specs.Analysed.{analysed}
use Rattle.distill_rules.specs.Cuts.{cut_at, is_dead}
use Rattle.distill_fits.proofs.Listing.{targets_of, whole}
use Rattle.distill_fits.proofs.Sites.{all_masks, plot_at}
use Rattle.distill_fits.proofs.Claimed.{write_is}
use Rattle.layout_rules.specs.Images.{cuts_of, places_of, distilled}
use Rattle.distill_fits.specs.Laws.{IsLoadOf, DistilledFits, ClaimsAreListed}
use Rattle.distill_fits.proofs.Analysed.{analysed_has}
use Rattle.distill_fits.proofs.Made.{distilled_is, noted, claimed}
use Rattle.distill_fits.proofs.Fitting.{image_fits}
use Rattle.distill_fits.proofs.Premises.{cut_listed, targets_listed_at, dead_listed_at, same_listed_at}

-- an analysed instruction has a pc
pub analysed_is_pc : (f : Profiled) → IsProfile f → (q : ℕ) → among (analysed f.rows) q ≡ true → IsPc q
analysed_is_pc f valid q h =
    let x = analysed_has IsTally f.rows (recursion_from_All IsTally f.rows valid.rows) q h in
    subst IsPc x.1 x.2.pc

pub distilled_fits : DistilledFits
distilled_fits word entry f same o small valid loads =
    let a = places_of word entry f same o in
    subst (Fits word) (distilled_is word entry f same o small)
    (image_fits word f.rows o.rare same a.pcs a.count o.limit small (analysed_is_pc f valid) valid.distinct (recursion_from_All (IsLoadOf word) same loads))

pub claims_are_listed : ClaimsAreListed
claims_are_listed word entry f same o small =
    let a = places_of word entry f same o in
    let c = cuts_of word entry f same o in
    let t = all_masks word f.rows c a.pcs in
    let ps = map (plot_at word f.rows c a.pcs t) (analysed f.rows) in
    let is = distilled_is word entry f same o small in
    let list : (x : Premise) (P : Type 0) → IsListed (whole word f.rows c ps) x ↔ P → IsListed (distilled word entry f same o).assumptions x ↔ P =
    λ x P h. subst (λ (im : Distilled). IsListed im.assumptions x ↔ P) is h in
    let all = ap claims (sym is) ∙ claimed word f.rows c a.pcs a.count o.limit in
    record {
      analysed = λ pc. ap (λ im. is_analysed im pc) (sym is) ∙ noted word f.rows c a.pcs a.count o.limit pc;
      claims = all;
      cut = λ pc taken. list (Cut pc taken) (cut_at word f.rows o.rare pc ≡ Some taken) (cut_listed word f.rows o.rare same ps pc taken);
      targets = λ pc to. list (Targets pc to) (targets_of word f.rows pc ≡ Some to) (targets_listed_at word f.rows o.rare same ps pc to);
      dead = λ pc. list (Dead pc) (is_dead word f.rows pc ≡ true) (dead_listed_at word f.rows o.rare same ps pc);
      writes = λ pc. ap (λ (d : Claims). d.prints pc) all ∙ write_is word f.rows o.rare pc;
      value = λ pc v h.
          same_listed_at word f.rows o.rare same a.pcs t pc v (subst (λ (im : Distilled). IsListed im.assumptions (Same pc v)) (sym is) h);
    }
