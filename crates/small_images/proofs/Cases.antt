-- What whole cases share. Some have a list of Code, Within and Span alone.
use Rattle.std.proofs.Common.{◌≡◌, ℕ, ◌<◌, zero, suc, true, false, List, [], ◌∷◌, Option, Some, None, sym, arith, inr, true≢false}
use Rattle.std.specs.Prelude.{slice_get, map}
use Rattle.std.specs.List.{All}
use Rattle.std.specs.List.Sorted.{IsStrictlyIncreasing}
use Rattle.cells.specs.Run.{State, is_over}
use Rattle.speculation.specs.Engine.{fresh, run}
use Rattle.speculation.proofs.Keeps.{run_keeps, fresh_holds}
use Rattle.squash_laws.proofs.Safe.{happens_safe, run_tracks, fresh_tracks}
use Rattle.dist_image.specs.Image.{Premise, Code, Within, Span, Distilled, IsPremise, IsKnownAtFirst, key_of}
use Rattle.image_semantics.specs.World.{world}
use Rattle.fitting.specs.Fails.{state_at, Fails}
use Rattle.fitting.proofs.Each.{OfEach, by_number}
use Rattle.fitting_laws.specs.Setting.{setting}
use Rattle.small_images.specs.Rows.{IsMet, IsAlwaysSafe}
use Rattle.fitting_laws.proofs.Sets.{is_setting}

pub never : {A : Type 0} → false ≡ true → A
never e = absurd (true≢false (sym e))

pub yes : {A : Type 0} → true ≡ false → A
yes e = absurd (true≢false e)

pub none_below : {A : Type 0} (k : ℕ) → k < 0 → A
none_below k l = absurd (omega (arith, l))

pub none_some : (n : ℕ) → ◌≡◌ {A = Option ℕ} None (Some n) → ⊥
none_some n e = cc

abbrev pub three : List Premise
three = Code ∷ Within ∷ Span ∷ []

pub premises : All IsPremise three
premises zero d l = ((omega arith, omega arith), omega arith, (λ k d l. none_below k l), λ k l. absurd (omega (arith, l)))
premises (suc zero) d l = ((omega arith, omega arith), omega arith, (λ k d l. none_below k l), λ k l. absurd (omega (arith, l)))
premises (suc (suc zero)) d l = ((omega arith, omega arith), omega arith, (λ k d l. none_below k l), λ k l. absurd (omega (arith, l)))
premises (suc (suc (suc k))) d l = absurd (omega (arith, l))

pub premises_known : All IsKnownAtFirst three
premises_known zero d l = tt
premises_known (suc zero) d l = tt
premises_known (suc (suc zero)) d l = tt
premises_known (suc (suc (suc k))) d l = absurd (omega (arith, l))

pub premises_rise : IsStrictlyIncreasing (map key_of three)
premises_rise zero l = omega arith
premises_rise (suc zero) l = omega arith
premises_rise (suc (suc k)) l = absurd (omega (arith, l))

module _ (start : State) (image : Distilled) where
  -- no assumption fails at a position where each in turn does not
  pub no_failure : (i : ℕ) → OfEach (λ x. Fails start image x i → ⊥) image.assumptions
      → (k : ℕ) (x : Premise) → slice_get image.assumptions k ≡ Some x → Fails start image x i → ⊥
  no_failure i each = by_number (λ x. Fails start image x i → ⊥) image.assumptions each

  -- the run ends within what is met, so there is always room
  pub always_safe : (n : ℕ) → IsMet start image n → is_over (state_at start n) ≡ true → IsAlwaysSafe start image
  always_safe n met over es e =
      let s = setting start image 1 n in
      let w = world start image 1 in
      let at = is_setting start image 1 met.valid n (omega arith) met.fits met.meets in
      happens_safe s at (run w es (fresh w)) e (inr (n, omega arith, over))
      (run_keeps w at.known es (fresh w) (fresh_holds w))
      (run_tracks s at es (fresh w) (fresh_holds w) (fresh_tracks s at))
