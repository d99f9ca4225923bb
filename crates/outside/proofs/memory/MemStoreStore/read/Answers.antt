use Rattle.std.proofs.Common.{ap, ◌∙◌}
use Rattle.outside.proofs.Counted.{faults_unlisted, read_at_count}
use Rattle.outside.proofs.memory.MemStoreStore.read.Goals as goal

pub returns-then-not-matches-clause-answer : goal.returns-then-not-matches-clause-answer
returns-then-not-matches-clause-answer c =
    let counted = ap (λ s. s.faults) c.count.ensures ∙ faults_unlisted c.self.inside.schedule c.if-is_next_listed.ensures in
    rw (counted, ← c.self.view_is) (read_at_count c.read-answer.ensures.answer c.self.inside.schedule.faults _ c.self.invariant)
