-- The places so far.
use Rattle.std.specs.Prelude.{take}
use Rattle.liveness.specs.Behind.{IsSpread}
use Rattle.liveness.proofs.behind.spread.Given as goal

abbrev pub invariant-loop-i : goal.invariant-loop-i
invariant-loop-i l = IsSpread l.mask (take l.i-index l.places) l.fn.behind l.behind l.fn.next.items l.next.items
