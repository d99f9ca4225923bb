-- What a step doesn't write stays.
use Rattle.rv_semantics.proofs.Writes.{unwritten_stays}
use Rattle.rv_semantics.proofs.unwritten_stays.Goals as goal

pub returns : goal.returns
returns c = unwritten_stays
