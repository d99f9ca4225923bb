-- The rules on registers, over the solved masks.
use Rattle.std.proofs.Common.{◌≡◌, ℕ, ◌<◌, ◌^◌, Bool, true, false, cond, List, subst, is_some}
use Rattle.rv_word.specs.Meaning.{meaning}
use Rattle.rv_word.specs.declared.inst.Inst.{Inst}
use Rattle.profile_data.specs.Profile.{Tally}
use Rattle.rv_semantics.specs.Prints.{task_reads, task_writes}
use Rattle.fitting.specs.Claims.{among, leads}
use Rattle.fitting.specs.Fits.{IsWithin, IsWithinBut}
use Rattle.distill_rules.specs.declared.Mask.{Mask}
use Rattle.distill_rules.specs.Analysed.{analysed}
use Rattle.distill_rules.specs.Cuts.{Cuts}
use Rattle.distill_rules.specs.Flow.{claims, successors, site}
use Rattle.distill_rules.specs.Rounds.{live_at, need_at, joined, less, needed, held}
use Rattle.distill_rules.specs.Solution.{IsFit}
use Rattle.distill_rules.proofs.Fitting.{point_fits}
use Rattle.layout_rules.specs.Images.{value_at}
use Rattle.distill_fits.specs.Laws.{AreWords}
use Rattle.distill_fits.proofs.Sites.{point_at, all_masks, plot_at}
use Rattle.distill_fits.proofs.Equations.{live_is, live_off, need_off, live_mask, need_mask}
use Rattle.distill_fits.proofs.Within.{within_trans, or_left, or_right, joined_mask, joined_has, but_less}

module _ (word : ℕ → ℕ) (rows : List Tally) (c : Cuts) (begun : List ℕ) (small : AreWords word) (pc : ℕ) where
  abbrev t : List Mask
  t = all_masks word rows c begun

  abbrev i : Inst
  i = meaning (word pc)

  -- the registers that it reads and writes, where a task does it
  abbrev pub read_mask : ℕ
  read_mask = task_reads (among c.writes) i pc

  abbrev pub write_mask : ℕ
  write_mask = task_writes (among c.writes) i pc

  abbrev after_live : ℕ
  after_live = joined (live_at t) (successors word rows c pc)

  abbrev after_need : ℕ
  after_need = joined (need_at t) (successors word rows c pc)

  -- what is laid at the pc
  abbrev live : ℕ
  live = (plot_at word rows c begun t pc).live

  abbrev need : ℕ
  need = (plot_at word rows c begun t pc).need

  abbrev kept : Bool
  kept = (plot_at word rows c begun t pc).kept

  pub writes_small : write_mask < 2 ^ 32
  writes_small = fit.writes
    where
      fit : IsFit (point_at word rows c begun pc)
      fit = point_fits (among c.writes) _ _ _ _ (site word rows c pc) (small pc)

  pub reads_live : IsWithin read_mask live
  reads_live = or_left read_mask (less after_live write_mask)

  live_in : (q : ℕ) → among (leads (claims word rows c) pc i) q ≡ true → IsWithin (live_at t q) after_live
  live_in q h = joined_has (live_at t) (among (analysed rows)) (live_off word rows c begun small) (leads (claims word rows c) pc i) q h

  pub need_in : (q : ℕ) → among (leads (claims word rows c) pc i) q ≡ true → IsWithin (need_at t q) after_need
  need_in q h = joined_has (need_at t) (among (analysed rows)) (need_off word rows c begun small) (leads (claims word rows c) pc i) q h

  pub next_live : (q : ℕ) → among (leads (claims word rows c) pc i) q ≡ true → IsWithinBut write_mask (live_at t q) live
  next_live q h =
      but_less write_mask after_live live writes_small (joined_mask (live_at t) (live_mask word rows c begun small) (successors word rows c pc)).1
      (or_right read_mask (less after_live write_mask)) (live_at t q) (live_in q h)

  -- what the instruction itself needs
  abbrev own : Bool → ℕ
  own b = needed b (point_at word rows c begun pc) after_need

  own_in : (b : Bool) → kept ≡ b → IsWithin (own b) need
  own_in b e = subst (λ b. IsWithin (own b) need) e (or_left (own kept) (held (among begun pc) (live_at t pc)))

  -- a register that is set asks for nothing
  abbrev asked : Bool → ℕ
  asked b = cond b 0 read_mask

  abbrev is_set : Bool
  is_set = is_some (value_at c pc)

  pub reads_needed : is_set ≡ false → kept ≡ true → IsWithin read_mask need
  reads_needed free e =
      within_trans read_mask (own true) need
      (subst (λ b. IsWithin (asked b) (own true)) free (or_left (asked is_set) (less after_need write_mask))) (own_in true e)

  pub next_needed : kept ≡ true → (q : ℕ) → among (leads (claims word rows c) pc i) q ≡ true → IsWithinBut write_mask (need_at t q) need
  next_needed e q h =
      but_less write_mask after_need need writes_small (joined_mask (need_at t) (need_mask word rows c begun small) (successors word rows c pc)).1
      (within_trans (less after_need write_mask) (own true) need (or_right (asked is_set) (less after_need write_mask)) (own_in true e)) (need_at t q) (need_in q h)

  pub passed_needed : kept ≡ false → (q : ℕ) → among (leads (claims word rows c) pc i) q ≡ true → IsWithin (need_at t q) need
  passed_needed e q h = within_trans (need_at t q) after_need need (need_in q h) (own_in false e)

  pub anchor_needed : among (analysed rows) pc ≡ true → among begun pc ≡ true → IsWithin live need
  anchor_needed there h =
      let all : IsWithin (held (among begun pc) (live_at t pc)) need = or_right (own kept) (held (among begun pc) (live_at t pc)) in
      subst (λ m. IsWithin m need) (live_is word rows c begun small pc there) (subst (λ b. IsWithin (held b (live_at t pc)) need) h all)
