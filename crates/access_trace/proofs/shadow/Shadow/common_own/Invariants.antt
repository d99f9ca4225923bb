use Rattle.std.proofs.Common.{◌≡◌, ℕ, ◌+◌, ◌%◌, ◌^◌, ◌<◌}
use Rattle.access_trace.specs.Shadows.{own_at}
use Rattle.access_trace.proofs.shadow.Shadow.common_own.Given as goal

abbrev pub invariant-loop-i : goal.invariant-loop-i
invariant-loop-i g l = (k : ℕ) → k < l.i → own_at g.M.Memory.at l.self ((l.span.from + k) % 2 ^ 32) ≡ l.mark
