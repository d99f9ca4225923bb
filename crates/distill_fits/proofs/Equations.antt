-- What the solved masks say at each pc.
use Rattle.std.proofs.Common.{◌≡◌, ℕ, true, false, List, [], ◌∷◌, refl, sym, ap, ◌∙◌, subst, eqb, ⊎_elim, ◌||◌, true≢false}
use Rattle.std.proofs.lemmas.Bool.{cond-true, cond-false, cases_Bool, eqb-true, or_parts}
use Rattle.profile_data.specs.Profile.{Tally}
use Rattle.dist_image.specs.Image.{IsMask}
use Rattle.fitting.specs.Claims.{among}
use Rattle.distill_rules.specs.declared.Mask.{Mask}
use Rattle.distill_rules.specs.Analysed.{analysed}
use Rattle.distill_rules.specs.Cuts.{Cuts}
use Rattle.distill_rules.specs.Rounds.{live_of, need_of, look, live_at, need_at, step}
use Rattle.distill_rules.proofs.Settling.{solved_masks}
use Rattle.distill_fits.specs.Laws.{AreWords}
use Rattle.distill_fits.proofs.Sites.{point_at, all_points, all_masks, are_fit, settled}
use Rattle.distill_fits.proofs.Noted.{round_of}

module _ (word : ℕ → ℕ) (rows : List Tally) (c : Cuts) (begun : List ℕ) where
  look_there : (t : List Mask) (field : Mask → ℕ) (qs : List ℕ) (q : ℕ) → among qs q ≡ true → look field (round_of word rows c begun t qs) q ≡ field (step t (point_at word rows c begun q))
  look_there t field [] q h = absurd (true≢false (sym h))
  look_there t field (n ∷ ns) q h =
      ⊎_elim
      (λ (e : eqb n q ≡ true).
      cond-true (eqb n q) (field (step t (point_at word rows c begun n))) _ e ∙ ap (λ n. field (step t (point_at word rows c begun n))) (eqb-true n q e))
      (λ (e : eqb n q ≡ false).
      cond-false (eqb n q) (field (step t (point_at word rows c begun n))) _ e ∙ look_there t field ns q (subst (λ b. (b || among ns q) ≡ true) e h))
      (cases_Bool (eqb n q))

  look_off : (t : List Mask) (field : Mask → ℕ) (qs : List ℕ) (q : ℕ) → among qs q ≡ false → look field (round_of word rows c begun t qs) q ≡ 0
  look_off t field [] q h = refl
  look_off t field (n ∷ ns) q h =
      let parts = or_parts (eqb n q) (among ns q) h in
      cond-false (eqb n q) (field (step t (point_at word rows c begun n))) _ parts.0 ∙ look_off t field ns q parts.1

  module _ (small : AreWords word) where
    abbrev t : List Mask
    t = all_masks word rows c begun

    -- the table is what a round over it gives
    pub round_is : (field : Mask → ℕ) (q : ℕ) → look field (round_of word rows c begun t (analysed rows)) q ≡ look field t q
    round_is field q = ap (λ t. look field t q) (settled word rows c begun small)

    pub live_is : (q : ℕ) → among (analysed rows) q ≡ true → live_at t q ≡ (step t (point_at word rows c begun q)).live
    live_is q h = sym (round_is live_of q) ∙ look_there t live_of (analysed rows) q h

    pub need_is : (q : ℕ) → among (analysed rows) q ≡ true → need_at t q ≡ (step t (point_at word rows c begun q)).need
    need_is q h = sym (round_is need_of q) ∙ look_there t need_of (analysed rows) q h

    pub live_off : (q : ℕ) → among (analysed rows) q ≡ false → live_at t q ≡ 0
    live_off q h = sym (round_is live_of q) ∙ look_off t live_of (analysed rows) q h

    pub need_off : (q : ℕ) → among (analysed rows) q ≡ false → need_at t q ≡ 0
    need_off q h = sym (round_is need_of q) ∙ look_off t need_of (analysed rows) q h

    pub live_mask : (q : ℕ) → IsMask (live_at t q)
    live_mask q = (solved_masks (all_points word rows c begun) (are_fit word rows c begun small) q).0

    pub need_mask : (q : ℕ) → IsMask (need_at t q)
    need_mask q = (solved_masks (all_points word rows c begun) (are_fit word rows c begun small) q).1
