-- The image of the analysed instructions fits the program.
use Rattle.std.proofs.Common.{◌≡◌, ℕ, ◌+◌, Bool, true, false, cond, List, [], ◌∷◌, map, length, refl, sym, ap, ◌∙◌, subst, inl, inr, ◌⊎◌, ⊎_elim, ◌&&◌, ◌<◌, ◌^◌, Option, Some, None, IsSome, is_some}
use Rattle.cells.specs.Cells.{IsPc}
use Rattle.std.specs.Prelude.{nat_eq}
use Rattle.std.specs.List.{slice_get, IsDistinct, AllByRecursion}
use Rattle.std.specs.Option.{unwrap_or}
use Rattle.std.proofs.lemmas.Bool.{cases_Bool, cond-false}
use Rattle.rv_word.specs.Masks.{mask, writes}
use Rattle.rv_semantics.specs.Prints.{asks, task_reads, task_writes}
use Rattle.rv_semantics.proofs.Tasks.{asks_no_other}
use Rattle.rv_word.specs.Meaning.{meaning}
use Rattle.rv_word.specs.declared.inst.Inst.{Inst}
use Rattle.dist_image.specs.declared.image.Slot.{Slot}
use Rattle.dist_image.specs.declared.image.Slot.TheVariants.{Exec, Go, Fork}
use Rattle.dist_image.specs.declared.image.Note.{Note}
use Rattle.dist_image.specs.Image.{Distilled, slot_of}
use Rattle.profile_data.specs.Profile.{Tally, pc_of}
use Rattle.fitting.specs.Claims.{Claims, among, claims, leads, goes_on_at, same_at}
use Rattle.fitting.specs.Fits.{IsWithin, IsWithinBut, IsKept, IsSet, IsDone, set_word, IsPlaced, MayPass, IsAimed, LiveFits, NeedFits, Fits, body_place, is_anchor_pc}
use Rattle.fitting.specs.Fits as fits
use Rattle.distill_rules.specs.declared.Mask.{Mask}
use Rattle.distill_rules.specs.Analysed.{analysed}
use Rattle.distill_rules.specs.Cuts.{Cuts, cuts}
use Rattle.distill_rules.specs.Flow.{successors}
use Rattle.distill_rules.specs.Flow as flow
use Rattle.distill_rules.specs.Rounds.{need_at, joined}
use Rattle.layout_rules.specs.declared.SlotPlan.{SlotPlan}
use Rattle.layout_rules.specs.Layout.{Laid, all_laid, fork}
use Rattle.layout_rules.specs.Images.{value_at, with_same}
use Rattle.distill_fits.specs.Laws.{AreWords, IsLoadOf}
use Rattle.distill_fits.proofs.Valued.{value_has, not_itself}
use Rattle.distill_fits.proofs.Sites.{plot_at}
use Rattle.distill_fits.proofs.Claimed.{has_sides_cut, is_aimed, goes_on_is}
use Rattle.distill_fits.proofs.Ruled.{read_mask, write_mask, reads_live, next_live, need_in, reads_needed, next_needed, passed_needed, anchor_needed}
use Rattle.distill_fits.proofs.May.{may_pass}
use Rattle.distill_fits.proofs.Next.{IsOrdered}
use Rattle.distill_fits.proofs.Passing.{kept_place, removed_place, removed_not_done, Begins}
use Rattle.distill_fits.proofs.Made as made
use Rattle.distill_fits.proofs.Entries as entries

fork_length : (a : Bool) (x : Slot) → length (cond a (x ∷ []) []) ≡ cond a 1 0
fork_length true x = refl
fork_length false x = refl

same_exec : (pc v w : ℕ) → ◌≡◌ {A = Option Slot} (Some (Exec pc v)) (Some (Exec pc w)) → v ≡ w
same_exec pc v w e = cc

module _ (word : ℕ → ℕ) (rows : List Tally) (rare : ℕ) (same : List (ℕ × ℕ)) (begun : List ℕ) (count limit : ℕ) (small : AreWords word)
    (aligned : (q : ℕ) → among (analysed rows) q ≡ true → IsPc q) (distinct : IsDistinct nat_eq (map pc_of rows)) (loads : AllByRecursion (IsLoadOf word) same) where
  abbrev c : Cuts
  c = with_same same (cuts word rows rare)

  abbrev t : List Mask
  t = made.t word rows c begun count limit

  abbrev ps : List SlotPlan
  ps = made.ps word rows c begun count limit

  abbrev image : Distilled
  image = made.image word rows c begun count limit

  abbrev all : Claims
  all = flow.claims word rows c

  pub order : IsOrdered ps
  order = made.ordered word rows c begun count limit aligned

  claimed : claims image ≡ all
  claimed = made.claimed word rows c begun count limit

  -- of one note
  module _ (i : ℕ) (l : Laid) (e : slice_get (all_laid ps) i ≡ Some l) (pc : ℕ) (there : among (analysed rows) pc ≡ true) (is : plot_at word rows c begun t pc ≡ l.plot) where
    abbrev n : Note
    n = record { pc = pc; slot = l.slot; live = (plot_at word rows c begun t pc).live; need = (plot_at word rows c begun t pc).need }

    abbrev inst : Inst
    inst = meaning (word pc)

    anchor_is : is_anchor_pc image pc ≡ among begun pc
    anchor_is = made.anchored word rows c begun count limit pc ∙ ap (λ b. b && among begun pc) there

    place_is : body_place image n ≡ l.slot + length (fork l.plot l.number)
    place_is =
        ap (λ b. l.slot + cond b 1 0) (anchor_is ∙ ap (λ (p : SlotPlan). p.is_anchor) is)
        ∙ ap (λ k. l.slot + k) (sym (fork_length l.plot.is_anchor (Fork l.number)))

    -- a word for it is done exactly where it is kept: its own, or one that sets the register of a load

    abbrev value : Option ℕ
    value = value_at c pc

    laid_there : l.plot.kept ≡ true → slice_get image.slots (body_place image n) ≡ Some (Exec pc (unwrap_or (set_word value inst) (word pc)))
    laid_there k = ap (slice_get image.slots) place_is ∙ kept_place ps order i l e k ∙ ap (λ (p : SlotPlan). Some (Exec p.pc p.word)) (sym is)

    load_of : (v : ℕ) → value ≡ Some v → IsSome (set_word (Some v) inst) × (v < 2 ^ 32)
    load_of v g = value_has (λ q v. IsSome (set_word (Some v) (meaning (word q))) × (v < 2 ^ 32)) same loads pc v g

    claimed_value : l.plot.kept ≡ true → same_at image pc ≡ value
    claimed_value k = made.valued word rows c begun count limit pc there (ap (λ (p : SlotPlan). p.kept) is ∙ k)

    done : l.plot.kept ≡ true → IsDone word image n
    done k = done_by_value value refl
      where
        set_by : (v : ℕ) → value ≡ Some v → (o : Option ℕ) → set_word (Some v) inst ≡ o → IsSome o → IsDone word image n
        set_by v g None f some = cc
        set_by v g (Some w) f some =
            let is_w : set_word value inst ≡ Some w = ap (λ o. set_word o inst) g ∙ f in
            inr (w, ap (λ o. set_word o inst) (claimed_value k) ∙ is_w, laid_there k ∙ ap (λ o. Some (Exec pc (unwrap_or o (word pc)))) is_w)

        done_by_value : (o : Option ℕ) → value ≡ o → IsDone word image n
        done_by_value None g = inl (laid_there k ∙ ap (λ o. Some (Exec pc (unwrap_or (set_word o inst) (word pc)))) g)
        done_by_value (Some v) g = set_by v g (set_word (Some v) inst) refl (load_of v g).0

    no_word_done : l.plot.kept ≡ false → (w : ℕ) → slice_get image.slots (body_place image n) ≡ Some (Exec pc w) → ⊥
    no_word_done k w x = removed_not_done ps order i (body_place image n) w l e k (x ∙ ap (λ (p : SlotPlan). Some (Exec p.pc w)) is)

    not_done : l.plot.kept ≡ false → IsDone word image n → ⊥
    not_done k x = ⊎_elim (λ (y : IsKept word image n). no_word_done k (word pc) y) (λ (y : IsSet word image n). no_word_done k y.0 y.2) x

    is_laid_kept : IsDone word image n → l.plot.kept ≡ true
    is_laid_kept x = ⊎_elim (λ (k : l.plot.kept ≡ true). k) (λ (k : l.plot.kept ≡ false). absurd (not_done k x)) (cases_Bool l.plot.kept)

    kept_by : IsDone word image n → (plot_at word rows c begun t pc).kept ≡ true
    kept_by x = ap (λ (p : SlotPlan). p.kept) is ∙ is_laid_kept x

    passed_by : (IsDone word image n → ⊥) → l.plot.kept ≡ false
    passed_by x = ⊎_elim (λ (k : l.plot.kept ≡ true). absurd (x (done k))) (λ (k : l.plot.kept ≡ false). k) (cases_Bool l.plot.kept)

    removed_by : (IsDone word image n → ⊥) → (plot_at word rows c begun t pc).kept ≡ false
    removed_by x = ap (λ (p : SlotPlan). p.kept) is ∙ passed_by x

    -- a load whose own word is done is not set: no word that sets a register is a load
    unset : IsKept word image n → is_some value ≡ false
    unset x = no_value value refl
      where
        set_by : (v : ℕ) → value ≡ Some v → (o : Option ℕ) → set_word (Some v) inst ≡ o → IsSome o → ⊥
        set_by v g None f some = cc
        set_by v g (Some w) f some =
            let is_w : set_word value inst ≡ Some w = ap (λ o. set_word o inst) g ∙ f in
            let laid : Some (Exec pc (word pc)) ≡ Some (Exec pc w) = sym x ∙ laid_there (is_laid_kept (inl x)) ∙ ap (λ o. Some (Exec pc (unwrap_or o (word pc)))) is_w in
            let own : word pc ≡ w = same_exec pc (word pc) w laid in
            not_itself v (word pc) (load_of v g).1 (small pc) (f ∙ ap (λ w. Some w) (sym own))

        no_value : (o : Option ℕ) → value ≡ o → is_some value ≡ false
        no_value None g = ap (λ (o : Option ℕ). is_some o) g
        no_value (Some v) g = absurd (set_by v g (set_word (Some v) inst) refl (load_of v g).0)

    -- ---- where the master goes on

    goes : l.plot.on ≡ goes_on_at (claims image) pc inst
    goes =
        ap (λ (p : SlotPlan). p.on) (sym is) ∙ goes_on_is word rows c pc (successors word rows c pc)
        ∙ ap (λ c. goes_on_at c pc inst) (sym claimed)

    pub placed : (IsDone word image n → ⊥) → IsPlaced word image n
    placed x =
        subst (λ q. (slice_get image.slots (body_place image n) ≡ Some (Go q)) ⊎ (slot_of image q ≡ Some (body_place image n))) goes
        (⊎_elim
        (λ (g : slice_get image.slots (l.slot + length (fork l.plot l.number)) ≡ Some (Go l.plot.on)). inl (ap (slice_get image.slots) place_is ∙ g))
        (λ (b : Begins ps order l.plot.on (l.slot + length (fork l.plot l.number))).
        inr (made.slot_at word rows c begun count limit order l.plot.on (l.slot + length (fork l.plot l.number)) b ∙ ap (λ k. Some k) (sym place_is)))
        (removed_place ps order i l e (passed_by x)))

    pub passed : (IsDone word image n → ⊥) → MayPass (claims image) pc (fits.need_at image (goes_on_at (claims image) pc inst)) inst
    passed x =
        subst (λ c. MayPass c pc (fits.need_at image (goes_on_at c pc inst)) inst) (sym claimed)
        (may_pass all (joined (need_at t) (successors word rows c pc)) (fits.need_at image) pc (write_mask word rows c begun small pc) inst
        (λ h. cond-false (asks (among c.writes) inst pc) (mask 10) (writes inst) (asks_no_other (among c.writes) inst pc h))
        (λ q h. subst (λ m. IsWithin m (joined (need_at t) (successors word rows c pc))) (sym (made.noted_need word rows c begun count limit small q)) (need_in word rows c begun small pc q h))
        (has_sides_cut word rows rare pc) (removed_by x))

    pub aimed : IsAimed (claims image) pc inst
    aimed = subst (λ c. IsAimed c pc inst) (sym claimed) (is_aimed word rows c distinct pc there)

    -- ---- registers

    led : (q : ℕ) → among (leads (claims image) pc inst) q ≡ true → among (leads all pc inst) q ≡ true
    led q h = sym (ap (λ c. among (leads c pc inst) q) claimed) ∙ h

    reads_is : fits.read_mask word image n ≡ read_mask word rows c begun small pc
    reads_is = ap (λ (d : Claims). task_reads d.prints inst pc) claimed

    writes_is : fits.write_mask word image n ≡ write_mask word rows c begun small pc
    writes_is = ap (λ (d : Claims). task_writes d.prints inst pc) claimed

    pub live_fits : LiveFits word image n
    live_fits = record {
      reads = subst (λ m. IsWithin m n.live) (sym reads_is) (reads_live word rows c begun small pc);
      next = λ q h.
          subst (λ w. IsWithinBut w (fits.live_at image q) n.live) (sym writes_is)
          (subst (λ m. IsWithinBut (write_mask word rows c begun small pc) m n.live) (sym (made.noted_live word rows c begun count limit small q))
          (next_live word rows c begun small pc q (led q h)));
    }

    pub need_fits : NeedFits word image n
    need_fits = record {
      kept_reads = λ k. subst (λ m. IsWithin m n.need) (sym reads_is) (reads_needed word rows c begun small pc (unset k) (kept_by (inl k)));
      done_next = λ k q h.
          subst (λ w. IsWithinBut w (fits.need_at image q) n.need) (sym writes_is)
          (subst (λ m. IsWithinBut (write_mask word rows c begun small pc) m n.need) (sym (made.noted_need word rows c begun count limit small q))
          (next_needed word rows c begun small pc (kept_by k) q (led q h)));
      passed_next = λ x q h.
          subst (λ m. IsWithin m n.need) (sym (made.noted_need word rows c begun count limit small q))
          (passed_needed word rows c begun small pc (removed_by x) q (led q h));
      anchor = λ h. anchor_needed word rows c begun small pc there (sym anchor_is ∙ h);
    }

  each : (P : Note → Type 0)
      → ((i : ℕ) (l : Laid) → slice_get (all_laid ps) i ≡ Some l → (pc : ℕ) → among (analysed rows) pc ≡ true → (is : plot_at word rows c begun t pc ≡ l.plot)
      → P (entries.note_at_pc word rows c begun count limit pc l))
      → (i : ℕ) (n : Note) → slice_get image.notes i ≡ Some n → P n
  each = entries.each word rows c begun count limit

  pub image_fits : Fits word image
  image_fits = record {
    listed = made.closed word rows c begun count limit;
    forks = entries.forked word rows c begun count limit order;
    placed = each (λ x. (IsDone word image x → ⊥) → IsPlaced word image x) placed;
    passed = each (λ x. (IsDone word image x → ⊥) → MayPass (claims image) x.pc (fits.need_at image (fits.goes_on word image x)) (fits.instruction word image x)) passed;
    aimed = each (λ x. IsAimed (claims image) x.pc (fits.instruction word image x)) aimed;
    live = each (LiveFits word image) live_fits;
    need = each (NeedFits word image) need_fits;
  }
