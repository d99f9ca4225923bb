-- What the notes say at a pc.
use Rattle.std.proofs.Common.{◌≡◌, ℕ, ◌+◌, Bool, true, false, cond, List, [], ◌∷◌, map, find, refl, eqb, ◌||◌, Option, Some, is_some, length}
use Rattle.std.specs.Option.{option_map, unwrap_or}
use Rattle.profile_data.specs.Profile.{Tally}
use Rattle.dist_image.specs.declared.image.Note.{Note}
use Rattle.fitting.specs.Claims.{among}
use Rattle.distill_rules.specs.declared.Mask.{Mask}
use Rattle.distill_rules.specs.Cuts.{Cuts}
use Rattle.distill_rules.specs.Flow.{site}
use Rattle.distill_rules.specs.Points.{point}
use Rattle.distill_rules.specs.Rounds.{live_of, need_of, look, step}
use Rattle.layout_rules.specs.Layout.{laid, note_of, lays, fork}
use Rattle.distill_fits.proofs.Sites.{plot_at}

abbrev pub noted_live : Note → ℕ
noted_live n = n.live

abbrev pub noted_need : Note → ℕ
noted_need n = n.need

abbrev pub find_note : List Note → ℕ → Option Note
find_note ns q = find (λ (n : Note). eqb n.pc q) ns

-- a round over a table at these pcs
abbrev pub round_of : (ℕ → ℕ) → List Tally → Cuts → List ℕ → List Mask → List ℕ → List Mask
round_of word rows c begun t qs = map (step t) (map (point c begun) (map (site word rows c) qs))

module _ (word : ℕ → ℕ) (rows : List Tally) (c : Cuts) (begun : List ℕ) (t : List Mask) (known : ℕ → Bool) where
  abbrev pub notes_from : ℕ → ℕ → List ℕ → List Note
  notes_from slot number qs = map note_of (laid known slot number (map (plot_at word rows c begun t) qs))

  pub is_noted : (qs : List ℕ) (slot number q : ℕ) → is_some (find_note (notes_from slot number qs) q) ≡ among qs q
  is_noted [] slot number q = refl
  is_noted (n ∷ ns) slot number q =
      noted_at_first (eqb n q) _ _ (is_noted ns (slot + length (lays known (plot_at word rows c begun t n) number)) (number + length (fork (plot_at word rows c begun t n) number)) q)
    where
      noted_at_first : (b : Bool) (x : Note) (more : Option Note) → is_some more ≡ among ns q → is_some (cond b (Some x) more) ≡ (b || among ns q)
      noted_at_first true x more rest = refl
      noted_at_first false x more rest = rest

  pub live_noted : (qs : List ℕ) (slot number q : ℕ) → unwrap_or (option_map noted_live (find_note (notes_from slot number qs) q)) 0 ≡ look live_of (round_of word rows c begun t qs) q
  live_noted [] slot number q = refl
  live_noted (n ∷ ns) slot number q =
      live_at_first (eqb n q) _ _ _ (live_noted ns (slot + length (lays known (plot_at word rows c begun t n) number)) (number + length (fork (plot_at word rows c begun t n) number)) q)
    where
      live_at_first : (b : Bool) (x : Note) (more : Option Note) (k : ℕ) → unwrap_or (option_map noted_live more) 0 ≡ k → unwrap_or (option_map noted_live (cond b (Some x) more)) 0 ≡ cond b x.live k
      live_at_first true x more k rest = refl
      live_at_first false x more k rest = rest

  pub need_noted : (qs : List ℕ) (slot number q : ℕ) → unwrap_or (option_map noted_need (find_note (notes_from slot number qs) q)) 0 ≡ look need_of (round_of word rows c begun t qs) q
  need_noted [] slot number q = refl
  need_noted (n ∷ ns) slot number q =
      need_at_first (eqb n q) _ _ _ (need_noted ns (slot + length (lays known (plot_at word rows c begun t n) number)) (number + length (fork (plot_at word rows c begun t n) number)) q)
    where
      need_at_first : (b : Bool) (x : Note) (more : Option Note) (k : ℕ) → unwrap_or (option_map noted_need more) 0 ≡ k → unwrap_or (option_map noted_need (cond b (Some x) more)) 0 ≡ cond b x.need k
      need_at_first true x more k rest = refl
      need_at_first false x more k rest = rest
