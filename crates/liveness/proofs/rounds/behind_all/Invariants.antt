-- The instructions so far.
use Rattle.std.proofs.Common.{◌≡◌, map}
use Rattle.std.specs.Prelude.{take}
use Rattle.liveness.specs.Behind.{behind_in}
use Rattle.liveness.proofs.rounds.behind_all.Given as goal

abbrev pub invariant-loop-part : goal.invariant-loop-part
invariant-loop-part l = l.all.items ≡ map (behind_in l.table) (take l.part-index l.parts)
