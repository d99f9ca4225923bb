-- The point of an instruction, by what is known of it.
use Rattle.distill_rules.specs.Flow.{Site}
use Rattle.distill_rules.specs.Rounds.{Point}
use Rattle.distill_rules.specs.Points.{point_by}
use Rattle.liveness.specs.declared.part.Known.{Known}

-- by its side that is cut, and whether it is dead, set, an anchor and a call that a task does
abbrev pub point_known : Known → Site → Point
point_known k s = point_by (λ pc. k.prints) k.cut k.dead k.is_set k.is_anchor s
