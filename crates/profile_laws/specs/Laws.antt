-- What the tally of a run comes to.
use Rattle.std.specs.Prelude.{◌≡◌, ℕ, Bool, ◌<◌, ◌≤◌, ◌^◌, false, true}
use Rattle.cells.specs.Cells.{IsPc}
use Rattle.cells.specs.Run.{State, is_over}
use Rattle.profile_data.specs.Profile.{Profiled, IsProfile}
use Rattle.fitting.specs.Fails.{state_at, pc_at}
use Rattle.profile_laws.specs.Profiles.{steps, IsProfileOf, IsWide}
use Rattle.profile_laws.specs.Tally.{kept, profile_of}

-- it is the profile of the run, and nothing else is
abbrev pub TallyIsProfile : Type 0
TallyIsProfile = (prints : ℕ → Bool) (start : State) (n : ℕ) → IsProfileOf prints start n (profile_of prints start n)

-- of n steps of a run there is one profile
abbrev pub ProfileIsOne : Type 0
ProfileIsOne = (prints : ℕ → Bool) (start : State) (n : ℕ) (p q : Profiled) → IsProfileOf prints start n p → IsProfileOf prints start n q → p ≡ q

-- a profile can hold it, unless it is too wide
abbrev pub TallyIsValid : Type 0
TallyIsValid =
    (prints : ℕ → Bool) (start : State) (n : ℕ) → n < 2 ^ 64 → ((i : ℕ) → i ≤ n → IsPc (pc_at start i)) → (IsWide (kept prints start n).rows → ⊥) → IsProfile (profile_of prints start n)

-- what is too wide stays so
abbrev pub WideStays : Type 0
WideStays = (prints : ℕ → Bool) (start : State) (k n : ℕ) → k ≤ n → IsWide (kept prints start k).rows → IsWide (kept prints start n).rows

-- the run takes n steps of a budget: it has not ended before n, and either n is the budget or it has ended then
pub record StepsAreTaken : Type 0 where
  pub at_least : (start : State) (budget k : ℕ) → k ≤ budget → ((i : ℕ) → i < k → is_over (state_at start i) ≡ false) → k ≤ steps start budget
  pub at_most : (start : State) (budget : ℕ) → steps start budget ≤ budget
  pub ended : (start : State) (budget k : ℕ) → k ≤ budget → is_over (state_at start k) ≡ true → steps start budget ≤ k
  pub going : (start : State) (budget i : ℕ) → i < steps start budget → is_over (state_at start i) ≡ false
