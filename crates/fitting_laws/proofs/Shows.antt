-- An image that fits its program, as the laws against squashes see it.
use Rattle.std.proofs.Common.{◌≡◌, ℕ, ◌+◌, ◌<◌, ◌^◌, Option, None, subst, true≢false, Bool, true, false, ◌&&◌, not, cond, Some, is_some, refl, sym, ap, ◌∙◌, inl, inr, ⊎_elim, ◌⊎◌}
use Rattle.std.specs.Prelude.{slice_get}
use Rattle.std.specs.Option.{option_map, unwrap_or}
use Rattle.rv_word.specs.declared.inst.Inst.{Inst}
use Rattle.rv_word.specs.Meaning.{meaning}
use Rattle.rv_word.specs.Masks.{sources, target, mask, writes, in_mask}
use Rattle.cells.specs.declared.Cell.TheVariants.{Reg, Byte}
use Rattle.cells.specs.Cells.{Arch, value}
use Rattle.cells.specs.Bytes.{number}
use Rattle.cells.specs.Run.{State}
use Rattle.cells.specs.Seen.{puts_of}
use Rattle.speculation.specs.World.{World}
use Rattle.squash_laws.specs.Image.{Image, Words, body, Exec as DoWord, Go as GoTo, Fork as ForkAt}
use Rattle.squash_laws.specs.Fits as seen
use Rattle.rv_semantics.specs.Values.{bytes_of}
use Rattle.rv_semantics.specs.Prints.{task_reads, task_writes}
use Rattle.rv_semantics.proofs.Tasks.{asks_no_other, own_effect}
use Rattle.rv_semantics.proofs.Registers.{registers_below}
use Rattle.rv_semantics.specs.Effect.{Effect, effect, first, second, load_count, load_from, is_store}
use Rattle.rv_semantics.specs.Machine.{is_next, word_at}
use Rattle.dist_image.specs.declared.image.Anchor.{Anchor}
use Rattle.dist_image.specs.declared.image.Note.{Note}
use Rattle.dist_image.specs.declared.image.Slot.TheVariants.{Exec}
use Rattle.dist_image.specs.Image.{Distilled, IsImage, note_at, slot_of, prints_at}
use Rattle.image_semantics.specs.World.{world, anchor_of}
use Rattle.fitting.specs.Claims.{claims, same_at}
use Rattle.fitting.specs.Fits.{Fits, IsKept, IsSet, IsDone, IsPlaced, MayPass, set_word, read_mask, write_mask, is_analysed, is_anchor_pc, live_at, need_at, body_place, instruction, goes_on}
use Rattle.fitting.specs.Fails.{program}
use Rattle.fitting_laws.specs.Setting.{words, view, shown, holds_as, pc_of}
use Rattle.fitting_laws.proofs.Found.{mapped_some, at_note, anchor_stands, anchor_is, exec_or_not, value_small}
use Rattle.fitting_laws.proofs.Passed.{only, leads_on, unwritten, no_call, goes, dead_only}
use Rattle.fitting_laws.proofs.Masks.{task_reads_mask}
use Rattle.fitting_laws.proofs.Constants.{IsSetTo, set_to, constant_is, set_does, reads_nothing, no_word}

or_else : (b c : Bool) → (b ≡ false → c ≡ true) → (b ≡ true) ⊎ (c ≡ true)
or_else true c h = inl refl
or_else false c h = inr (h refl)

-- the values by which an instruction does its effect in a state
abbrev a_of : Inst → Arch → ℕ
a_of i s = first (sources i) (value s)

abbrev b_of : Inst → Arch → ℕ
b_of i s = second (sources i) (value s)

abbrev n_of : Inst → Arch → ℕ
n_of i s = number (load_count i) (load_from i (a_of i s)) (bytes_of (value s))

module _ (start : State) (image : Distilled) (slaves : ℕ) (ok : IsImage image) where
  abbrev world_of : World
  world_of = world start image slaves

  abbrev prints : ℕ → Bool
  prints = prints_at image

  abbrev word : ℕ → ℕ
  word = program start

  abbrev ws : Words
  ws = words (prints_at image) (program start)

  abbrev im : Image
  im = view (program start) image

  module _ (fits : Fits (program start) image) where
    -- an anchor's note and slots
    pub anchored : (pc : ℕ) → is_anchor_pc image pc ≡ true
        → (a : Anchor) × (anchor_of image pc ≡ Some a) × (slot_of image pc ≡ Some a.slot) × (shown image (slice_get image.slots a.slot) ≡ Some (ForkAt pc))
    anchored pc h =
        let a = anchor_is image pc h in
        let at = anchor_stands image pc a.0 a.1 in
        let f = fits.forks at.0 a.0 at.1 in
        (a.0, a.1, ap (slot_of image) (sym at.2) ∙ f.0, ap (shown image) f.1 ∙ ap (λ o. Some (ForkAt (pc_of o))) at.1 ∙ ap (λ p. Some (ForkAt p)) at.2)

    pub anchor_noted : (pc : ℕ) → is_anchor_pc image pc ≡ true → is_analysed image pc ≡ true
    anchor_noted pc h = let a = anchored pc h in mapped_some (λ (x : Note). x.slot) (note_at image pc) a.0.slot a.2

    -- one note
    module _ (k : ℕ) (x : Note) (at : slice_get image.notes k ≡ Some x) (own : note_at image x.pc ≡ Some x) where
      abbrev i : Inst
      i = instruction word image x

      abbrev on : ℕ
      on = goes_on word image x

      live_is : live_at image x.pc ≡ x.live
      live_is = ap (λ o. unwrap_or (option_map (λ (x : Note). x.live) o) 0) own

      need_is : need_at image x.pc ≡ x.need
      need_is = ap (λ o. unwrap_or (option_map (λ (x : Note). x.need) o) 0) own

      live_from : (r : ℕ) → in_mask x.live r ≡ true → in_mask (live_at image x.pc) r ≡ true
      live_from r h = ap (λ m. in_mask m r) live_is ∙ h

      need_from : (r : ℕ) → in_mask x.need r ≡ true → in_mask (need_at image x.pc) r ≡ true
      need_from r h = ap (λ m. in_mask m r) need_is ∙ h

      body_is : body world_of im x.pc ≡ body_place image x
      body_is = ap (λ o. unwrap_or (option_map (λ (x : Note). x.slot) o) 0 + cond (is_anchor_pc image x.pc) 1 0) own

      anchor_need : (r : ℕ) → is_anchor_pc image x.pc ≡ true → im.live x.pc r ≡ true → im.need x.pc r ≡ true
      anchor_need r h l = need_from r ((fits.need k x at).anchor h r (sym (ap (λ m. in_mask m r) live_is) ∙ l))

      live_reads : (r : ℕ) → in_mask (read_mask word image x) r ≡ true → im.live x.pc r ≡ true
      live_reads r h = live_from r ((fits.live k x at).reads r h)

      live_next : (q r : ℕ) → im.leads x.pc q ≡ true → im.has q ≡ true → im.live q r ≡ true → (in_mask (write_mask word image x) r ≡ true) ⊎ (im.live x.pc r ≡ true)
      live_next q r l has h = or_else (in_mask (write_mask word image x) r) (im.live x.pc r) (λ u. live_from r ((fits.live k x at).next q l r h u))

      in_place : (w : ℕ) → slice_get image.slots (body_place image x) ≡ Some (Exec x.pc w) → im.slots (body world_of im x.pc) ≡ Some (DoWord x.pc w)
      in_place w is = ap (λ place. shown image (slice_get image.slots place)) body_is ∙ ap (shown image) is

      done_next : IsDone word image x → (q r : ℕ) → im.leads x.pc q ≡ true → im.has q ≡ true → im.need q r ≡ true → (in_mask (write_mask word image x) r ≡ true) ⊎ (im.need x.pc r ≡ true)
      done_next is q r l has h = or_else (in_mask (write_mask word image x) r) (im.need x.pc r) (λ u. need_from r ((fits.need k x at).done_next is q l r h u))

      kept : IsKept word image x → seen.IsKept world_of ws im x.pc
      kept is = record {
        word = word x.pc;
        slot = in_place (word x.pc) is;
        does = λ s pc code h. record { stops = refl; move = refl; reads = λ y r. r; writes = λ y. refl };
        reads = λ s r pc code h. need_from r (
            (fits.need k x at).kept_reads is r (
            ap (λ p. in_mask (task_reads prints i p) r) (sym pc) ∙ sym (task_reads_mask prints i s.pc (value s) r) ∙ h));
        next = done_next (inl is);
      }

      -- the word in the place of a load of one value
      set : IsSet word image x → seen.IsKept world_of ws im x.pc
      set is = record {
        word = is.0;
        slot = in_place is.0 is.2;
        does = λ s pc code h. set_does prints s (same_at image x.pc) i is.0 to few small (holds s pc code h);
        reads = λ s r pc code h. absurd (true≢false (sym h ∙ reads_nothing prints s to.rd to.v (meaning is.0) (constant_is (same_at image x.pc) i is.0 to few small) (Reg r)));
        next = done_next (inr is);
      }
        where
          to : IsSetTo (same_at image x.pc) i is.0
          to = set_to (same_at image x.pc) i is.0 is.1

          few : to.rd < 2 ^ 5
          few = subst (λ j. target j < 32) to.load (registers_below (word x.pc)).1

          small : to.v < 2 ^ 32
          small = value_small image ok x.pc to.v to.claimed

          holds : (s : Arch) → s.pc ≡ x.pc → word_at s ≡ word x.pc → im.holds s ≡ true → holds_as (same_at image x.pc) i s ≡ true
          holds s pc code h = sym (λ j. holds_as (same_at image (pc j)) (meaning (code j)) s) ∙ h

      passed : (IsDone word image x → ⊥) → seen.IsPassed world_of ws im x.pc
      passed is_not = record {
        on = on;
        place = placed (fits.placed k x at is_not);
        only = λ q l. only (claims image) x.pc need_there i may q l;
        need = λ r has h. (
          need_from r ((fits.need k x at).passed_next is_not on (leads_on (claims image) x.pc need_there i may) r h),
          ap (λ c. in_mask (cond c (mask 10) (writes i)) r) (asks_no_other prints i x.pc (no_call (claims image) x.pc need_there i may)) ∙ unwritten (claims image) x.pc need_there i may r h,
        );
        goes_on = λ s pc.
            ap (λ (e : Effect). not (is_next e.flow)) (own_effect prints i s.pc (value s) (asks_no_other prints i s.pc (no_call (claims image) x.pc need_there i may)))
            ∙ ap (λ p. not (is_next (effect i p (a_of i s) (b_of i s) (n_of i s)).flow)) pc
            ∙ ap not (goes (claims image) x.pc need_there i (a_of i s) (b_of i s) (n_of i s) may);
        bytes = λ s b pc fetched put.
            (λ j. (claims image).dead (pc j) && is_store (meaning (fetched j)))
            ∙ dead_only (claims image) x.pc need_there i (a_of i s) (b_of i s) (n_of i s) b may
            (sym (ap (λ (e : Effect). is_some (puts_of e.puts (Byte b))) (own_effect prints i s.pc (value s) (asks_no_other prints i s.pc (no_call (claims image) x.pc need_there i may)))
            ∙ ap (λ p. is_some (puts_of (effect i p (a_of i s) (b_of i s) (n_of i s)).puts (Byte b))) pc) ∙ put);
      }
        where
          need_there : ℕ
          need_there = need_at image on

          may : MayPass (claims image) x.pc need_there i
          may = fits.passed k x at is_not

          placed : IsPlaced word image x → (im.slots (body world_of im x.pc) ≡ Some (GoTo on)) ⊎ ((im.has on ≡ true) × (im.slot_of on ≡ body world_of im x.pc))
          placed (inl go) = inl (ap (λ place. shown image (slice_get image.slots place)) body_is ∙ ap (shown image) go)
          placed (inr there) = inr (
            mapped_some (λ (x : Note). x.slot) (note_at image on) (body_place image x) there,
            ap (λ o. unwrap_or o 0) there ∙ sym body_is,
          )

      each : seen.IsKept world_of ws im x.pc ⊎ seen.IsPassed world_of ws im x.pc
      each =
          ⊎_elim (λ (is : IsKept word image x). inl (kept is))
          (λ (unkept : IsKept word image x → ⊥). by_set unkept (set_word (same_at image x.pc) i) refl)
          (exec_or_not (slice_get image.slots (body_place image x)) x.pc (word x.pc))
        where
          neither : (IsKept word image x → ⊥) → (IsSet word image x → ⊥) → IsDone word image x → ⊥
          neither unkept unset d = ⊎_elim unkept unset d

          other : (a b : ℕ) → ◌≡◌ {A = Option ℕ} (Some a) (Some b) → a ≡ b
          other a b e = cc

          by_set : (IsKept word image x → ⊥) → (o : Option ℕ) → set_word (same_at image x.pc) i ≡ o → seen.IsKept world_of ws im x.pc ⊎ seen.IsPassed world_of ws im x.pc
          by_set unkept None e = inr (passed (neither unkept (λ is. no_word (is.0) (sym e ∙ is.1))))
          by_set unkept (Some w) e =
              ⊎_elim (λ (there : slice_get image.slots (body_place image x) ≡ Some (Exec x.pc w)). inl (set (w, e, there)))
              (λ (gone : slice_get image.slots (body_place image x) ≡ Some (Exec x.pc w) → ⊥).
              inr (passed (neither unkept (λ is. gone (is.2 ∙ ap (λ v. Some (Exec x.pc v)) (other is.0 w (sym is.1 ∙ e)))))))
              (exec_or_not (slice_get image.slots (body_place image x)) x.pc w)

    pub fits_shown : seen.Fits (world start image slaves) (words (prints_at image) (program start)) (view (program start) image)
    fits_shown = record {
      anchor_note = anchor_noted;
      anchor_slot = λ pc h. let a = anchored pc h in ap (λ o. shown image (slice_get image.slots (unwrap_or o 0))) a.2 ∙ a.3;
      anchor_need = λ pc r h. at_note image (λ pc. is_anchor_pc image pc ≡ true → im.live pc r ≡ true → im.need pc r ≡ true) (λ k x at own. anchor_need k x at own r) pc (anchor_noted pc h) h;
      each = at_note image (λ pc. seen.IsKept world_of ws im pc ⊎ seen.IsPassed world_of ws im pc) each;
      live_reads = λ pc r. at_note image (λ pc. in_mask (task_reads prints (meaning (word pc)) pc) r ≡ true → im.live pc r ≡ true) (λ k x at own. live_reads k x at own r) pc;
      live_next = λ pc q r. at_note image (λ pc. im.leads pc q ≡ true → im.has q ≡ true → im.live q r ≡ true → (in_mask (task_writes prints (meaning (word pc)) pc) r ≡ true) ⊎ (im.live pc r ≡ true)) (λ k x at own. live_next k x at own q r) pc;
    }
