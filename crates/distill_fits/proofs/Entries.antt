-- The entries of the image of the analysed instructions.
use Rattle.std.proofs.Common.{◌≡◌, ℕ, true, List, sym, ap, ◌∙◌, subst, arith, Some}
use Rattle.std.specs.List.{slice_get}
use Rattle.dist_image.specs.declared.image.Slot.TheVariants.{Fork}
use Rattle.dist_image.specs.declared.image.Anchor.{Anchor}
use Rattle.dist_image.specs.declared.image.Note.{Note}
use Rattle.dist_image.specs.Image.{Distilled, slot_of}
use Rattle.profile_data.specs.Profile.{Tally}
use Rattle.fitting.specs.Claims.{among}
use Rattle.distill_rules.specs.declared.Mask.{Mask}
use Rattle.distill_rules.specs.Analysed.{analysed}
use Rattle.distill_rules.specs.Cuts.{Cuts}
use Rattle.layout_rules.specs.declared.SlotPlan.{SlotPlan}
use Rattle.layout_rules.specs.Layout.{is_laid, Laid, all_laid, note_of}
use Rattle.distill_fits.proofs.Sites.{plot_at}
use Rattle.distill_fits.proofs.Lists.{from_map, among_at}
use Rattle.distill_fits.proofs.Places as places
use Rattle.distill_fits.proofs.Next.{IsOrdered}
use Rattle.distill_fits.proofs.Anchors.{anchor_from, fork_at}
use Rattle.distill_fits.proofs.Made as made

module _ (word : ℕ → ℕ) (rows : List Tally) (c : Cuts) (begun : List ℕ) (count limit : ℕ) where
  abbrev t : List Mask
  t = made.t word rows c begun count limit

  abbrev ps : List SlotPlan
  ps = made.ps word rows c begun count limit

  abbrev image : Distilled
  image = made.image word rows c begun count limit

  -- the note of a pc, that is laid here
  abbrev pub note_at_pc : ℕ → Laid → Note
  note_at_pc pc l = record { pc = pc; slot = l.slot; live = (plot_at word rows c begun t pc).live; need = (plot_at word rows c begun t pc).need }

  -- each note is that of an analysed pc
  pub each : (P : Note → Type 0)
      → ((i : ℕ) (l : Laid) → slice_get (all_laid ps) i ≡ Some l → (pc : ℕ) → among (analysed rows) pc ≡ true → (is : plot_at word rows c begun t pc ≡ l.plot)
      → P (note_at_pc pc l))
      → (i : ℕ) (n : Note) → slice_get image.notes i ≡ Some n → P n
  each P h i n e =
      let x = from_map note_of (all_laid ps) i n e in
      let l : Laid = x.0 in
      let there = places.plot_at (is_laid ps) ps 0 0 i l x.1 in
      let y = from_map (plot_at word rows c begun t) (analysed rows) i l.plot there in
      let same : note_at_pc y.0 l ≡ n =
      ap (λ (p : SlotPlan). record { pc = p.pc; slot = l.slot; live = p.live; need = p.need }) y.2 ∙ x.2 in
      subst P same (h i l x.1 y.0 (among_at (analysed rows) i y.0 y.1) y.2)

  -- each anchor's pc has a note with the same slot, and that is the anchor's Fork
  pub forked : (order : IsOrdered ps) (i : ℕ) (a : Anchor) → slice_get image.anchors i ≡ Some a → (slot_of image a.pc ≡ Some a.slot) × (slice_get image.slots a.slot ≡ Some (Fork i))
  forked order i a e =
      let x = anchor_from (is_laid ps) count ps 0 0 i a e in
      let l : Laid = x.1 in
      let number : l.number ≡ i = omega (arith, x.4) in (
        made.slot_at word rows c begun count limit order a.pc a.slot (x.0, l, x.2, sym x.5, sym x.6),
        ap (slice_get image.slots) x.6 ∙ fork_at (is_laid ps) count ps x.0 l x.2 x.3 ∙ ap (λ k. Some (Fork k)) number,
      )
