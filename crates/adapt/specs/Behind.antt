-- How far an adapter's recorder stands.
use Rattle.std.specs.Prelude.{◌≡◌, ℕ, ◌≤◌, Bool, true, false, Option}
use Rattle.cells.specs.Run.{is_over}
use Rattle.seq_machine.specs.Parts.{start_of}
use Rattle.dist_image.specs.Image.{Distilled}
use Rattle.fitting.specs.Fails.{state_at}
use Rattle.profile_laws.specs.Profiles.{with_mark, IsWide}
use Rattle.profile_laws.specs.Tally.{kept}
use Rattle.profiler.specs.Recorded.{Recorded}
use Rattle.adapt.specs.Made.{made}

-- it counts short writes and isn't past a position; and where it was found too wide, so is the profile at that position
pub record IsBehind (r : Recorded) (position : ℕ) (wide : Bool) : Type 0 where
  pub calls : r.calls ≡ true
  pub within : r.position ≤ position
  pub too_wide : wide ≡ true → IsWide (kept (with_mark true) (start_of r.program r.input) position).rows

-- the run of a recorder has not ended at a position
abbrev pub IsRunningAt : Recorded → ℕ → Type 0
IsRunningAt r position = is_over (state_at (start_of r.program r.input) position) ≡ false

-- the profile of its steps before a position is too wide
abbrev pub IsWideAt : Recorded → ℕ → Type 0
IsWideAt r position = IsWide (kept (with_mark r.calls) (start_of r.program r.input) position).rows

-- the image of its steps before a position, if they give one
abbrev pub image_at : Recorded → ℕ → Option Distilled
image_at r position = made r.program (start_of r.program r.input) position
