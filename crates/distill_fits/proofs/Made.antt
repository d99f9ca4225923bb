-- The image of the analysed instructions, and what its notes, anchors and list say.
use Rattle.std.proofs.Common.{◌≡◌, ℕ, ◌+◌, true, List, [], ◌∷◌, ◌++◌, map, length, refl, sym, ap, ◌∙◌, subst, arith, Some, None, ◌&&◌}
use Rattle.cells.specs.Cells.{IsPc}
use Rattle.std.specs.List.{slice_get}
use Rattle.std.specs.Option.{option_map}
use Rattle.dist_image.specs.declared.image.Note.{Note}
use Rattle.dist_image.specs.Image.{Dead, Code, Within, Span, Distilled, slot_of}
use Rattle.profile_data.specs.Profile.{Tally, Profiled}
use Rattle.fitting.specs.Claims.{among, claims, same_at}
use Rattle.fitting.specs.Fits.{IsListed, is_analysed, is_anchor_pc}
use Rattle.fitting.specs.Fits as fits
use Rattle.distill_rules.specs.declared.Mask.{Mask}
use Rattle.distill_rules.specs.Analysed.{analysed}
use Rattle.distill_rules.specs.Cuts.{Cuts}
use Rattle.distill_rules.specs.Flow.{graph}
use Rattle.distill_rules.specs.Flow as flow
use Rattle.distill_rules.specs.Rounds.{live_of, need_of, live_at, need_at}
use Rattle.layout_rules.specs.declared.SlotPlan.{SlotPlan}
use Rattle.layout_rules.specs.declared.Options.{Options}
use Rattle.layout_rules.specs.Layout.{is_laid, all_laid}
use Rattle.layout_rules.specs.Images.{cut_premise, listed, values, value_at, image_of, cuts_of, places_of, distilled}
use Rattle.distill_fits.specs.Laws.{AreWords}
use Rattle.distill_fits.proofs.Analysed.{analysed_rise}
use Rattle.distill_fits.proofs.Sites.{all_masks, plot_at, plots_are}
use Rattle.distill_fits.proofs.Noted.{is_noted, live_noted, need_noted}
use Rattle.distill_fits.proofs.Forks.{is_anchor_among, among_anchors}
use Rattle.distill_fits.proofs.Equations.{round_is}
use Rattle.distill_fits.proofs.Claimed.{targets_only}
use Rattle.distill_fits.proofs.Listing.{claims_are, same_listed, target_premises}
use Rattle.distill_fits.proofs.Valued.{value_of}
use Rattle.distill_fits.proofs.Looked.{look_pairs}
use Rattle.std.specs.Prelude.{nat_eq}
use Rattle.std.specs.Map.{lookup}
use Rattle.std.proofs.lemmas.Bool.{cond-true}
use Rattle.std.proofs.lemmas.Option.{slice_get_within}
use Rattle.distill_fits.proofs.Lists.{from_map, among_at, rises_at, note_found}
use Rattle.distill_fits.proofs.Places as places
use Rattle.distill_fits.proofs.Next.{IsOrdered, one_entry}
use Rattle.distill_fits.proofs.Passing.{Begins}
use Rattle.dist_image.specs.Image.{Premise}

module _ (word : ℕ → ℕ) (rows : List Tally) (c : Cuts) (begun : List ℕ) (count limit : ℕ) where
  abbrev pub t : List Mask
  t = all_masks word rows c begun

  abbrev pub ps : List SlotPlan
  ps = map (plot_at word rows c begun t) (analysed rows)

  abbrev pub image : Distilled
  image = image_of (graph word rows c) c rows count limit ps

  -- ---- the pcs are those of the analysed instructions, in their order

  pub ordered : ((q : ℕ) → among (analysed rows) q ≡ true → IsPc q) → IsOrdered ps
  ordered aligned = record {
    rises = λ i j p q e f l.
        let x = from_map (plot_at word rows c begun t) (analysed rows) i p e in
        let y = from_map (plot_at word rows c begun t) (analysed rows) j q f in
        let a = ap (λ (r : SlotPlan). r.pc) x.2 in
        let b = ap (λ (r : SlotPlan). r.pc) y.2 in
        let d = rises_at (analysed rows) (analysed_rise rows) i j x.0 y.0 x.1 y.1 l in
        omega (arith, a, b, d);
    aligned = λ i p e.
        let x = from_map (plot_at word rows c begun t) (analysed rows) i p e in
        subst IsPc (ap (λ (r : SlotPlan). r.pc) x.2) (aligned x.0 (among_at (analysed rows) i x.0 x.1));
  }

  pub noted : (q : ℕ) → is_analysed image q ≡ among (analysed rows) q
  noted q = is_noted word rows c begun t (is_laid ps) (analysed rows) 0 0 q

  pub anchored : (q : ℕ) → is_anchor_pc image q ≡ (among (analysed rows) q && among begun q)
  anchored q = is_anchor_among image q ∙ among_anchors word rows c begun t (is_laid ps) count (analysed rows) 0 0 q

  pub noted_live : AreWords word → (q : ℕ) → fits.live_at image q ≡ live_at t q
  noted_live small q = live_noted word rows c begun t (is_laid ps) (analysed rows) 0 0 q ∙ round_is word rows c begun small live_of q

  pub noted_need : AreWords word → (q : ℕ) → fits.need_at image q ≡ need_at t q
  noted_need small q = need_noted word rows c begun t (is_laid ps) (analysed rows) 0 0 q ∙ round_is word rows c begun small need_of q

  pub claimed : claims image ≡ flow.claims word rows c
  claimed = claims_are word rows c ps (targets_only word rows)

  -- a kept instruction's value is listed
  pub valued : (q : ℕ) → among (analysed rows) q ≡ true → (plot_at word rows c begun t q).kept ≡ true → same_at image q ≡ value_at c q
  valued q there kept =
      ap (lookup (nat_eq q)) (same_listed word rows c begun t) ∙ look_pairs (value_of word rows c begun t) (analysed rows) q
      ∙ cond-true (among (analysed rows) q) (value_of word rows c begun t q) None there ∙ cond-true (plot_at word rows c begun t q).kept (value_at c q) None kept

  -- the slot of a pc is where its entry begins
  pub slot_at : (order : IsOrdered ps) (q place : ℕ) → Begins ps order q place → slot_of image q ≡ Some place
  slot_at order q place (j, m, e, pc, slot) =
      let found = note_found (all_laid ps) j m e (λ i l b f same.
      let a = one_entry ps order i j l.plot m.plot (places.plot_at (is_laid ps) ps 0 0 i l f) (places.plot_at (is_laid ps) ps 0 0 j m e) same in
      omega (arith, a, b)) in
      subst (λ n. slot_of image n ≡ Some place) pc (ap (option_map (λ (n : Note). n.slot)) found ∙ ap (λ k. Some k) slot)

  -- ---- what speaks of no single pc is listed

  abbrev before : List Premise
  before = map cut_premise c.cut ++ target_premises word rows c (analysed rows) ++ map Dead c.dead

  abbrev behind : List Premise
  behind = Code ∷ Within ∷ Span ∷ []

  -- what is listed is an entry of the list
  pub in_list : (k : ℕ) (x : Premise) → slice_get (listed c rows (graph word rows c)) k ≡ Some x → slice_get image.assumptions k ≡ Some x
  in_list k x e =
      places.get_left (listed c rows (graph word rows c)) (values c ps) k (slice_get_within (listed c rows (graph word rows c)) k x e) ∙ e

  closing_at : (k : ℕ) (x : Premise) → slice_get behind k ≡ Some x → IsListed image.assumptions x
  closing_at k x e = (length before + k, in_list (length before + k) x (places.get_right before behind k (length before + k) refl ∙ e))

  pub closed : IsListed image.assumptions Code × IsListed image.assumptions Within × IsListed image.assumptions Span
  closed = (closing_at 0 Code refl, closing_at 1 Within refl, closing_at 2 Span refl)

-- the image that is distilled is such
pub distilled_is : (word : ℕ → ℕ) (entry : ℕ) (f : Profiled) (same : List (ℕ × ℕ)) (o : Options) → AreWords word
    → image word f.rows (cuts_of word entry f same o) (places_of word entry f same o).pcs (places_of word entry f same o).count o.limit ≡ distilled word entry f same o
unfolding distilled
distilled_is word entry f same o small =
    sym (ap (image_of (graph word f.rows (cuts_of word entry f same o)) (cuts_of word entry f same o) f.rows (places_of word entry f same o).count o.limit)
    (plots_are word f.rows (cuts_of word entry f same o) (places_of word entry f same o).pcs small))
