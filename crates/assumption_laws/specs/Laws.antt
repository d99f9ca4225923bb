-- What the tests of a position tell.
use Rattle.std.specs.Prelude.{◌≡◌, ℕ, ◌+◌, ◌<◌, ◌≤◌, ◌↔◌, true, false, slice_get, Some, None}
use Rattle.cells.specs.Run.{State, is_over}
use Rattle.dist_image.specs.Image.{Premise, Span, Distilled, IsImage}
use Rattle.fitting.specs.Fits.{IsListed}
use Rattle.fitting.specs.Fails.{state_at, IsSpanned, Fails, Meets, IsBroken}
use Rattle.assumption_laws.specs.Looks.{look_at, fails_by, first_failing, comes, span_fails}
use Rattle.assumption_laws.specs.Waits.{overdue}

-- an assumption but Span fails at a position exactly where it fails by what is looked at of it
abbrev pub LooksTell : Type 0
LooksTell = (start : State) (image : Distilled) (i : ℕ) (x : Premise) → (x ≡ Span → ⊥) → Fails start image x i ↔ (fails_by (look_at start image i) x ≡ true)

-- from a position of the run a task comes to its last arrival, or to a stop, exactly where it does step by step
abbrev pub StepsTell : Type 0
StepsTell =
    (start : State) (image : Distilled) (i count : ℕ) → is_over (state_at start i) ≡ false → 1 ≤ count
    → IsSpanned start image i count ↔ (comes start image image.limit count i ≡ true)

-- Span fails at a position exactly where the test by waiting anchors says so
abbrev pub SpanIsTold : Type 0
SpanIsTold =
    (start : State) (image : Distilled) → IsImage image → (i : ℕ) → is_over (state_at start i) ≡ false
    → Fails start image Span i ↔ (span_fails start image i ≡ true)

-- the run has come to position j, and none that waited was overdue before
pub record IsSearched (start : State) (image : Distilled) (bound j : ℕ) : Type 0 where
  pub going : (k : ℕ) → k < j → is_over (state_at start k) ≡ false
  pub none : (k : ℕ) → k < j → overdue start image bound k ≡ false

-- the first that is overdue tells the first position at which Span fails, and where none is, Span fails at none
pub record WaitsTell (start : State) (image : Distilled) : Type 0 where
  pub late : (bound j : ℕ) → IsSearched start image bound j → is_over (state_at start j) ≡ false → overdue start image bound j ≡ true
      → (i : ℕ) × (i + image.limit ≡ j) × (i < bound) × (span_fails start image i ≡ true) × ((h : ℕ) → h < i → span_fails start image h ≡ false)
  pub ended : (bound j : ℕ) → IsSearched start image bound j → is_over (state_at start j) ≡ true
      → (i : ℕ) → i < bound → i < j → span_fails start image i ≡ false
  pub past : (bound j : ℕ) → IsSearched start image bound j → bound + image.limit ≤ j → is_over (state_at start j) ≡ false
      → (i : ℕ) → i < bound → span_fails start image i ≡ false

-- no assumption that is listed fails at a position before n, by the tests
pub record PassesBefore (start : State) (image : Distilled) (n : ℕ) : Type 0 where
  pub looks : (i : ℕ) → i < n → is_over (state_at start i) ≡ false → first_failing start image i ≡ None
  pub spans : IsListed image.assumptions Span → (i : ℕ) → i < n → is_over (state_at start i) ≡ false → span_fails start image i ≡ false

-- What the tests tell of a run. Those of one value are listed behind Span: where one of them is the first that fails by its test,
-- Span is asked first
pub record VerdictIsTold (start : State) (image : Distilled) : Type 0 where
  pub met : (n : ℕ) → PassesBefore start image n → Meets start image n
  pub broken : (i k : ℕ) → PassesBefore start image i → is_over (state_at start i) ≡ false → first_failing start image i ≡ Some k
      → ((j : ℕ) → j < k → slice_get image.assumptions j ≡ Some Span → span_fails start image i ≡ false) → IsBroken start image i k
  pub late : (i k : ℕ) → PassesBefore start image i → is_over (state_at start i) ≡ false → ((j : ℕ) → first_failing start image i ≡ Some j → k < j)
      → span_fails start image i ≡ true → slice_get image.assumptions k ≡ Some Span → IsBroken start image i k
