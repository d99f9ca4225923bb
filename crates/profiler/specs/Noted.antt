-- Marks that were noted, and those to note.
use Rattle.std.specs.Prelude.{◌≡◌, ℕ, true, List, All}
use Rattle.profile_data.specs.Profile.{Tally}
use Rattle.fitting.specs.Claims.{among}
use Rattle.profile_laws.specs.Tally.{places, bytes_in, read_back, marked}
use Rattle.access_trace.specs.declared.shadow.Shadow.{Shadow}
use Rattle.access_trace.specs.declared.span.ByteRange.{ByteRange}
use Rattle.access_trace.specs.Spans.{span_of}
use Rattle.access_trace.specs.Shadows.{own_at, mark_at}
use Rattle.profiler.specs.declared.visit.Visit.{Visit}

-- to note any of them again changes no row
abbrev pub AreNoted : List ℕ → List Tally → Type 0
AreNoted marks rows = All (λ mark. marked mark rows ≡ rows) marks

-- each byte of a span has a mark of its own
abbrev pub AreMarkedApart : {M : Type 0} → (M → ℕ → ℕ) → Shadow M → ByteRange → Type 0
AreMarkedApart at writers span = (a : ℕ) → among (bytes_in (span_of span)) a ≡ true → mark_at at writers a ≡ own_at at writers a

-- the rows, once each store is noted whose bytes are in a span
abbrev pub noted_in : {M : Type 0} → (M → ℕ → ℕ) → Shadow M → ByteRange → List Tally → List Tally
noted_in at writers span rows = read_back (mark_at at writers) (bytes_in (span_of span)) rows

-- the rows, once each store is noted whose bytes a position fetches or loads
abbrev pub noted_by : {M : Type 0} → (M → ℕ → ℕ) → Shadow M → Visit → List Tally → List Tally
noted_by at writers visit rows = noted_in at writers visit.loads (read_back (mark_at at writers) (places 4 visit.pc) rows)
