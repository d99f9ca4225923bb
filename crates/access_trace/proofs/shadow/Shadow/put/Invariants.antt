use Rattle.std.proofs.Common.{◌≡◌, ℕ, true, false}
use Rattle.fitting.specs.Claims.{among}
use Rattle.profile_laws.specs.Tally.{bytes_in}
use Rattle.access_trace.specs.Spans.{span_of}
use Rattle.access_trace.specs.Shadows.{mark_at}
use Rattle.access_trace.proofs.shadow.Shadow.put.Given as goal

abbrev pub invariant-loop-left : goal.invariant-loop-left
invariant-loop-left g l = record {
  rest : (a : ℕ) → among (bytes_in (span_of l.left)) a ≡ true → among (bytes_in (span_of l.fn.span)) a ≡ true;
  marked : (a : ℕ) → among (bytes_in (span_of l.fn.span)) a ≡ true → among (bytes_in (span_of l.left)) a ≡ false → mark_at g.M.Memory.at l.self a ≡ l.mark;
  others : (a : ℕ) → among (bytes_in (span_of l.fn.span)) a ≡ false → mark_at g.M.Memory.at l.self a ≡ mark_at g.M.Memory.at l.fn.self a;
}

abbrev pub decreases-loop-left : goal.decreases-loop-left
decreases-loop-left g l = l.left.count
