-- The tally in the code.
use Rattle.std.specs.Prelude.{◌≡◌, ℕ, ◌-◌, ◌<◌, ◌^◌, List, ⊤, if◌then◌else◌}
use Rattle.indexmap.specs.IndexMap.{values}
use Rattle.profile_data.specs.Profile.{Tally, target_count}
use Rattle.profile_data.specs.Keyed.{IsKeyed}
use Rattle.profile_laws.specs.Profiles.{IsWide}
use Rattle.profile_laws.specs.Tally.{Kept, after_visit, rows_after, bytes_in}
use Rattle.fitting.specs.Claims.{among}
use Rattle.access_trace.specs.Spans.{span_of}
use Rattle.access_trace.specs.Shadows.{mark_at}
use Rattle.profiler.specs.declared.owed.Owed.{Owed}
use Rattle.profiler.specs.declared.owed.Owed.TheVariants.{Nothing, Entry, Marks}
use Rattle.profiler.specs.declared.tally.Tally.{Tally as CodeTally}
use Rattle.profiler.specs.declared.visit.Visit.{Visit as CodeVisit}
use Rattle.profiler.specs.Visits.{visit_of}
use Rattle.profiler.specs.Rows.{EachHasRoom}

-- what is kept, once what is owed is entered
abbrev pub entered : Owed → Kept → Kept
entered Nothing k = k
entered (Entry v) k = after_visit (visit_of v) k
entered (Marks s claim) k = record { rows = k.rows; writers = λ a. if among (bytes_in (span_of s)) a then claim else k.writers a }

-- what the code has, without what is owed
abbrev pub base_of : {M : Type 0} → (M → ℕ → ℕ) → CodeTally M → Kept
base_of at t = record { rows = values t.table.rows; writers = mark_at at t.writers }

-- what a tally keeps, in the definition's words
abbrev pub kept_of : {M : Type 0} → (M → ℕ → ℕ) → CodeTally M → Kept
kept_of at t = entered t.owed (base_of at t)

-- the rows that the code has, without what is owed, once a position is counted
abbrev pub rows_with : {M : Type 0} → (M → ℕ → ℕ) → CodeTally M → CodeVisit → List Tally
rows_with at t v = rows_after (visit_of v) (base_of at t)

-- with a position counted, there are too many rows or targets
abbrev pub IsWideWith : {M : Type 0} → (M → ℕ → ℕ) → CodeTally M → CodeVisit → Type 0
IsWideWith at t v = IsWide (rows_after (visit_of v) (kept_of at t))

-- what is owed can be entered
pub record CanEnter (v_claim : ℕ) (rows : List Tally) : Type 0 where
  pub room : EachHasRoom rows
  pub claim : v_claim < 2 ^ 32 - 1
  pub few : IsWide rows → ⊥

abbrev pub IsReady : Owed → List Tally → Type 0
IsReady Nothing rows = ⊤
IsReady (Entry v) rows = CanEnter v.claim rows
IsReady (Marks s claim) rows = claim < 2 ^ 32 - 1

-- each row is under its own address, the targets are counted, and neither is too many
pub record IsTally {M : Type 0} (at : M → ℕ → ℕ) (t : CodeTally M) : Type 0 where
  pub keyed : IsKeyed t.table.rows
  pub count : t.targets ≡ target_count (values t.table.rows)
  pub few : IsWide (kept_of at t).rows → ⊥
  pub ready : IsReady t.owed (values t.table.rows)
