-- The image of the analysed instructions is a valid one.
use Rattle.std.proofs.Common.{◌≡◌, ℕ, ◌+◌, ◌<◌, ◌≤◌, ◌^◌, suc, min, eqb, ◌&&◌, Bool, true, false, cond, List, [], ◌∷◌, ◌++◌, map, filter, filter_map, length, All, flat_map, refl, sym, ap, ◌∙◌, subst, arith, inl, inr, ◌⊎◌, Option, Some, None, IsSome}
use Rattle.cells.specs.Cells.{IsPc}
use Rattle.std.specs.Option.{unwrap_or}
use Rattle.std.proofs.lemmas.List.Elements.{All-append, All-nil, All-cons}
use Rattle.std.specs.Prelude.{nat_eq}
use Rattle.std.specs.List.{AllByRecursion, IsDistinct, slice_get}
use Rattle.std.specs.List.Sorted.{IsStrictlyIncreasing}
use Rattle.std.proofs.lemmas.List.{length-map}
use Rattle.std.proofs.lemmas.List.Kept.{IsStrictlyIncreasing-filter}
use Rattle.rv_word.specs.Meaning.{meaning}
use Rattle.dist_image.specs.declared.image.Anchor.{Anchor}
use Rattle.dist_image.specs.declared.image.Note.{Note}
use Rattle.dist_image.specs.Image.{Premise, Code, Within, Span, IsMask, IsAnchor, IsNote, IsPremise, IsImage, IsKnownAtFirst, Distilled, key_of, target_count, most_steps}
use Rattle.profile_data.specs.Profile.{Tally, IsTally, pc_of}
use Rattle.profile_data.specs.Profile as profile
use Rattle.fitting.specs.Claims.{among}
use Rattle.distill_rules.specs.declared.Mask.{Mask}
use Rattle.distill_rules.specs.Analysed.{analysed}
use Rattle.distill_rules.specs.Cuts.{Cuts, cuts, cut_at, is_dead, is_write}
use Rattle.fitting.specs.Fits.{set_word}
use Rattle.layout_rules.specs.Images.{value_at, values, version_of, limit_of, with_same}
use Rattle.distill_fits.proofs.Listing.{targets_of}
use Rattle.distill_fits.proofs.Premises.{from_picked}
use Rattle.distill_fits.proofs.Valued.{value_of, value_has}
use Rattle.distill_valid.proofs.Chosen.{cut_as, targets_as, dead_as}
use Rattle.rv_word.proofs.WellFormedMeaning.{well_formed-meaning}
use Rattle.distill_valid.proofs.Setting.{set_small}
use Rattle.distill_rules.specs.Flow.{successors, graph}
use Rattle.distill_rules.specs.Flow as flow
use Rattle.layout_rules.specs.declared.SlotPlan.{SlotPlan}
use Rattle.layout_rules.specs.Layout.{is_laid, Laid, laid, all_laid, lays, fork, note_of, anchors_of}
use Rattle.distill_fits.specs.Laws.{AreWords, IsLoadOf}
use Rattle.distill_fits.proofs.Analysed.{analysed_rise}
use Rattle.distill_valid.proofs.Assumed.{all_premises, all_increase}
use Rattle.distill_valid.proofs.Limits.{few_assumptions, few_targets}
use Rattle.distill_fits.proofs.Claimed.{among_filter, has_sides_cut, goes_on_is}
use Rattle.distill_valid.proofs.Counted.{analysed_most}
use Rattle.distill_fits.proofs.Equations.{live_is, need_is, live_mask, need_mask}
use Rattle.distill_fits.proofs.Entries as entries
use Rattle.distill_fits.proofs.Lists.{from_map, among_at}
use Rattle.distill_fits.proofs.Made as made
use Rattle.distill_fits.proofs.Next.{IsOrdered}
use Rattle.distill_fits.proofs.Passing.{slot_in_range}
use Rattle.distill_valid.proofs.Ways.{on_pc}
use Rattle.distill_valid.proofs.Picked.{cut_pick, targets_pick, dead_pick, of_none, values_are, listed_is}
use Rattle.distill_fits.proofs.Places as places
use Rattle.distill_fits.proofs.Sites.{plot_at}
use Rattle.distill_valid.proofs.Tables.{each_at, all_at, increasing, laid_length, slots_most, anchors_most, IsFit, slots_ok, anchors_ok}

-- ---- the pcs of notes and anchors

abbrev note_pc : Note → ℕ
note_pc n = n.pc

abbrev anchor_pc : Anchor → ℕ
anchor_pc a = a.pc

module _ (word : ℕ → ℕ) (rows : List Tally) (c : Cuts) (begun : List ℕ) (t : List Mask) (known : ℕ → Bool) (count : ℕ) where
  note_pcs : (qs : List ℕ) (s n : ℕ) → map note_pc (map note_of (laid known s n (map (plot_at word rows c begun t) qs))) ≡ qs
  note_pcs [] s n = refl
  note_pcs (q ∷ qs) s n =
      ap (λ xs. q ∷ xs) (note_pcs qs (s + length (lays known (plot_at word rows c begun t q) n)) (n + length (fork (plot_at word rows c begun t q) n)))

  anchor_pcs : (qs : List ℕ) (s n : ℕ) → map anchor_pc (flat_map (anchors_of count) (laid known s n (map (plot_at word rows c begun t) qs))) ≡ filter (among begun) qs
  anchor_pcs [] s n = refl
  anchor_pcs (q ∷ qs) s n =
      let more = s + length (lays known (plot_at word rows c begun t q) n) in
      let next = n + length (fork (plot_at word rows c begun t q) n) in
      front (among begun q) (record { pc = q; slot = s; count = count }) (flat_map (anchors_of count) (laid known more next (map (plot_at word rows c begun t) qs)))
      ∙ ap (λ xs. cond (among begun q) (q ∷ xs) xs) (anchor_pcs qs more next)
    where
      front : (b : Bool) (a : Anchor) (rest : List Anchor) → map anchor_pc ((cond b (a ∷ []) []) ++ rest) ≡ cond b (a.pc ∷ map anchor_pc rest) (map anchor_pc rest)
      front true a rest = refl
      front false a rest = refl

-- ---- the version, and what it allows

version_two : (ws : List ℕ) (ps : List Premise) → (version_of ws ps ≡ 1) ⊎ (version_of ws ps ≡ 2)
version_two [] [] = inl refl
version_two [] (p ∷ ps) = inr refl
version_two (w ∷ ws) ps = inr refl

is_plain : (ws : List ℕ) (ps : List Premise) → version_of ws ps ≡ 1 → (ws ≡ []) × (ps ≡ [])
is_plain [] [] e = (refl, refl)
is_plain [] (p ∷ ps) e = absurd (omega (arith, e))
is_plain (w ∷ ws) ps e = absurd (omega (arith, e))

limit_fits : (version limit : ℕ) → 16 ≤ limit → limit ≤ 16_384 → (16 ≤ limit_of version limit) × (limit_of version limit ≤ most_steps version)
limit_fits version limit least greatest = by_version (eqb version 1)
  where
    by_version : (b : Bool) → (16 ≤ cond b limit (min limit 4_096)) × (cond b limit (min limit 4_096) ≤ cond b 16_384 4_096)
    by_version true = (least, greatest)
    by_version false = (omega (arith, least), omega arith)

-- a kind that the first version knows
picked_plain : (pick : ℕ → Option Premise) → ((pc : ℕ) (p : Premise) → pick pc ≡ Some p → IsKnownAtFirst p) → (pcs : List ℕ) → All IsKnownAtFirst (filter_map pick pcs)
picked_plain pick h pcs = all_at IsKnownAtFirst (filter_map pick pcs) (λ i p e. let x = from_picked pick pcs i p e in h x.0 p x.2)

module _ (word : ℕ → ℕ) (rows : List Tally) (rare : ℕ) where
  listed_plain : All IsKnownAtFirst (filter_map (cut_pick word rows rare) (analysed rows) ++ filter_map (targets_pick word rows rare) (analysed rows)
      ++ filter_map (dead_pick word rows rare) (analysed rows) ++ of_none word rows rare)
  listed_plain =
      let a = filter_map (cut_pick word rows rare) (analysed rows) in
      let b = filter_map (targets_pick word rows rare) (analysed rows) in
      let d = filter_map (dead_pick word rows rare) (analysed rows) in
      let cut = picked_plain (cut_pick word rows rare) (λ pc p e. let x = cut_as pc (cut_at word rows rare pc) p e in subst IsKnownAtFirst x.1 tt) (analysed rows) in
      let targets = picked_plain (targets_pick word rows rare) (λ pc p e. let x = targets_as pc (targets_of word rows pc) p e in subst IsKnownAtFirst x.2 tt) (analysed rows) in
      let dead = picked_plain (dead_pick word rows rare) (λ pc p e. let x = dead_as pc (is_dead word rows pc) p e in subst IsKnownAtFirst x tt) (analysed rows) in
      All-append IsKnownAtFirst (a ++ b ++ d) (of_none word rows rare)
      (All-append IsKnownAtFirst (a ++ b) d (All-append IsKnownAtFirst a b cut targets) dead)
      (All-cons IsKnownAtFirst Code (Within ∷ Span ∷ []) tt (All-cons IsKnownAtFirst Within (Span ∷ []) tt (All-cons IsKnownAtFirst Span [] tt (All-nil IsKnownAtFirst))))

kept_shorter : (p : ℕ → Bool) (ns : List ℕ) → length (filter p ns) ≤ length ns
kept_shorter p [] = omega arith
kept_shorter p (n ∷ ns) = if_passing (p n) (kept_shorter p ns)
  where
    if_passing : (b : Bool) → length (filter p ns) ≤ length ns → length (cond b (n ∷ filter p ns) (filter p ns)) ≤ suc (length ns)
    if_passing true more = omega (arith, more)
    if_passing false more = omega (arith, more)

among_kept : (p : ℕ → Bool) (ns : List ℕ) (q : ℕ) → among (filter p ns) q ≡ true → among ns q ≡ true
among_kept p ns q h = and_left (among ns q) (p q) (sym (among_filter p ns q) ∙ h)
  where
    and_left : (a b : Bool) → (a && b) ≡ true → a ≡ true
    and_left true b h = refl
    and_left false b h = h

module _ (word : ℕ → ℕ) (rows : List Tally) (rare : ℕ) (same : List (ℕ × ℕ)) (begun : List ℕ) (count limit : ℕ) (small : AreWords word)
    (aligned : (q : ℕ) → among (analysed rows) q ≡ true → IsPc q) (distinct : IsDistinct nat_eq (map pc_of rows)) (loads : AllByRecursion (IsLoadOf word) same) where
  abbrev c : Cuts
  c = with_same same (cuts word rows rare)

  abbrev t : List Mask
  t = made.t word rows c begun count limit

  abbrev ps : List SlotPlan
  ps = made.ps word rows c begun count limit

  abbrev image : Distilled
  image = made.image word rows c begun count limit

  order : IsOrdered ps
  order = made.ordered word rows c begun count limit aligned

  abbrev value : ℕ → Option ℕ
  value = value_of word rows c begun t

  given : (pc v : ℕ) → value pc ≡ Some v → value_at c pc ≡ Some v
  given pc v e = if_kept (plot_at word rows c begun t pc).kept (value_at c pc) e
    where
      if_kept : (b : Bool) (o : Option ℕ) → cond b o None ≡ Some v → o ≡ Some v
      if_kept true o e = e
      if_kept false o e = cc

  load_of : (pc v : ℕ) → value_at c pc ≡ Some v → IsSome (set_word (Some v) (meaning (word pc))) × (v < 2 ^ 32)
  load_of pc v e = value_has (λ q v. IsSome (set_word (Some v) (meaning (word q))) × (v < 2 ^ 32)) same loads pc v e

  -- a word that is laid has 32 bits
  laid_small : (pc : ℕ) → (plot_at word rows c begun t pc).word < 2 ^ 32
  laid_small pc = if_set (value_at c pc) (λ v e. (load_of pc v e).1) refl
    where
      set_by : (v : ℕ) → v < 2 ^ 32 → (o : Option ℕ) → set_word (Some v) (meaning (word pc)) ≡ o → unwrap_or o (word pc) < 2 ^ 32
      set_by v l None f = small pc
      set_by v l (Some w) f = set_small v (meaning (word pc)) w (well_formed-meaning (word pc) (small pc)) l f

      if_set : (o : Option ℕ) → ((v : ℕ) → o ≡ Some v → v < 2 ^ 32) → value_at c pc ≡ o → unwrap_or (set_word o (meaning (word pc))) (word pc) < 2 ^ 32
      if_set None l e = small pc
      if_set (Some v) l e = set_by v (l v refl) (set_word (Some v) (meaning (word pc))) refl

  plot_fits : (pc : ℕ) → among (analysed rows) pc ≡ true → IsFit (plot_at word rows c begun t pc)
  plot_fits pc h = record {
    pc = aligned pc h;
    word = laid_small pc;
    on =
        subst IsPc (sym (goes_on_is word rows c pc (successors word rows c pc)))
        (on_pc (flow.claims word rows c) pc (meaning (word pc)) (aligned pc h) (has_sides_cut word rows rare pc));
  }

  all_fit : AllByRecursion IsFit ps
  all_fit = each_at IsFit ps (λ i p e.
      let x = from_map (plot_at word rows c begun t) (analysed rows) i p e in
      subst IsFit x.2 (plot_fits x.0 (among_at (analysed rows) i x.0 x.1)))

  in_range : (i : ℕ) (l : Laid) → slice_get (all_laid ps) i ≡ Some l → l.slot < length image.slots
  in_range i l e = slot_in_range ps order i l e

  note_ok : (i : ℕ) (l : Laid) → slice_get (all_laid ps) i ≡ Some l → (pc : ℕ) → among (analysed rows) pc ≡ true → plot_at word rows c begun t pc ≡ l.plot
      → IsNote (length image.slots) (record { pc = pc; slot = l.slot; live = (plot_at word rows c begun t pc).live; need = (plot_at word rows c begun t pc).need })
  note_ok i l e pc h is = (
    aligned pc h,
    in_range i l e,
    subst IsMask (live_is word rows c begun small pc h) (live_mask word rows c begun small pc),
    subst IsMask (need_is word rows c begun small pc h) (need_mask word rows c begun small pc),
  )

  laid_many : length (all_laid ps) ≤ length rows
  laid_many =
      let a = laid_length (is_laid ps) count ps 0 0 in
      let b = length-map (analysed rows) (plot_at word rows c begun t) in
      let d = analysed_most rows in
      omega (arith, a, b, d)

  pub image_valid : AllByRecursion IsTally rows → length rows ≤ 524_288 → profile.target_count rows ≤ 1_048_576
      → 1 ≤ count → count ≤ 64 → 16 ≤ limit → limit ≤ 16_384 → IsImage image
  image_valid valid few many some most least greatest =
      let laid_few = laid_many in
      let as_listed = listed_is word rows rare same begun t in
      record {
        version = version_two c.writes (values c ps);
        plain = λ e.
            let none = is_plain c.writes (values c ps) e in (
              none.0,
              subst (All IsKnownAtFirst) (sym as_listed) (All-append IsKnownAtFirst _ _ (listed_plain word rows rare)
                  (subst (All IsKnownAtFirst) (sym none.1 ∙ values_are word rows c begun t (analysed rows)) (All-nil IsKnownAtFirst))),
            );
        limit = limit_fits (version_of c.writes (values c ps)) limit least greatest;
        few_slots = let a = slots_most (is_laid ps) count (all_laid ps) in omega (arith, a, laid_few, few);
        few_anchors = let a = anchors_most (is_laid ps) count (all_laid ps) in omega (arith, a, laid_few, few);
        few_notes = let a = length-map (all_laid ps) note_of in omega (arith, a, laid_few, few);
        few_assumptions =
            let a = few_assumptions word rows rare value (λ pc v e. (load_of pc v (given pc v e)).0) in
            let b = analysed_most rows in
            let e = ap length as_listed in
            omega (arith, a, b, e, few);
        few_targets =
            let a = few_targets word rows rare value distinct in
            let e = ap target_count as_listed in
            omega (arith, a, e, many);
        slots = slots_ok (is_laid ps) count (length image.anchors) ps 0 0 (omega arith) all_fit;
        anchors = anchors_ok (is_laid ps) count (IsAnchor (length image.slots)) (all_laid ps) (λ i l e.
            (order.aligned i l.plot (places.plot_at (is_laid ps) ps 0 0 i l e), in_range i l e, some, most));
        anchors_rise =
            subst IsStrictlyIncreasing (sym (anchor_pcs word rows c begun t (is_laid ps) count (analysed rows) 0 0))
            (IsStrictlyIncreasing-filter (among begun) (analysed rows) (increasing (analysed rows) (analysed_rise rows)));
        notes = all_at (IsNote (length image.slots)) image.notes (entries.each word rows c begun count limit (IsNote (length image.slots)) note_ok);
        notes_rise =
            subst IsStrictlyIncreasing (sym (note_pcs word rows c begun t (is_laid ps) count (analysed rows) 0 0)) (increasing (analysed rows) (analysed_rise rows));
        assumptions = subst (All IsPremise) (sym as_listed) (all_premises word rows rare value aligned valid (λ pc v e. (load_of pc v (given pc v e)).1));
        assumptions_rise = subst (λ xs. IsStrictlyIncreasing (map key_of xs)) (sym as_listed) (all_increase word rows rare value aligned);
        few_writes = let a = kept_shorter (is_write word rows) (analysed rows) in let b = analysed_most rows in omega (arith, a, b, few);
        writes = all_at IsPc c.writes (λ i q e. aligned q (among_kept (is_write word rows) (analysed rows) q (among_at c.writes i q e)));
        writes_rise = IsStrictlyIncreasing-filter (is_write word rows) (analysed rows) (increasing (analysed rows) (analysed_rise rows));
      }
