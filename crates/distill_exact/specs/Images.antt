-- What an image lists, against the run that its profile is of.
use Rattle.std.specs.Prelude.{◌≡◌, ℕ, ◌<◌, suc, Bool, true, List, All}
use Rattle.cells.specs.Run.{State, is_over}
use Rattle.dist_image.specs.Image.{Premise, Within, Same, Distilled, kind_of}
use Rattle.profile_data.specs.Profile.{Tally, Profiled}
use Rattle.fitting.specs.Fits.{IsListed}
use Rattle.fitting.specs.Fails.{program, state_at, IsLoaded, Fails}
use Rattle.profile_laws.specs.Profiles.{with_mark, IsProfileOf}
use Rattle.distill_exact.specs.Laws.{AreUnchanged, HoldsBefore}
use Rattle.layout_rules.specs.declared.Options.{Options}
use Rattle.layout_rules.specs.Images.{distilled}
use Rattle.distill_fits.specs.Laws.{AreWords}

-- What the image lists of single pcs, and Code, fails at no position before n. Where no row is changed, nor does Within: not at
-- the last of these positions either, where the run has ended after n steps
pub record ListHolds (start : State) (image : Distilled) (rows : List Tally) (n : ℕ) : Type 0 where
  pub listed : (x : Premise) → IsListed image.assumptions x → kind_of x < 4 → HoldsBefore start image n x
  pub values : (pc v : ℕ) → IsListed image.assumptions (Same pc v) → HoldsBefore start image n (Same pc v)
  pub within : AreUnchanged rows → (i : ℕ) → suc i < n → Fails start image Within i → ⊥
  pub within_ended : AreUnchanged rows → is_over (state_at start n) ≡ true → HoldsBefore start image n Within

-- the image that is distilled of the profile of n steps lists what holds in them
abbrev pub DistilledExactly : Type 0
DistilledExactly =
    (calls : Bool) (start : State) (n entry : ℕ) (f : Profiled) (same : List (ℕ × ℕ)) (o : Options) → AreWords (program start)
    → IsProfileOf (with_mark calls) start n f → All (IsLoaded start n) same → o.rare ≡ 0
    → ListHolds start (distilled (program start) entry f same o) f.rows n
