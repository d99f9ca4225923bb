-- The marks so far.
use Rattle.std.proofs.Common.{◌≡◌, ℕ, ◌+◌, ◌++◌, map}
use Rattle.fitting.specs.Claims.{among}
use Rattle.profile_laws.specs.Tally.{places}
use Rattle.access_trace.specs.Shadows.{mark_at}
use Rattle.assume_list.proofs.read.append_each.Given as goal

abbrev pub invariant-loop-i : goal.invariant-loop-i
invariant-loop-i g l = (at : ℕ) → among l.to.items (at + 1) ≡ among (l.fn.to.items ++ map (mark_at g.M.Memory.at l.shadow) (places l.i l.span.from)) (at + 1)
