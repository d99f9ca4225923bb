-- Step after step.
use Rattle.rv_semantics.proofs.Bounded.{recorded_few, recorded_printing}
use Rattle.rv_semantics.proofs.records_are_bounded.Goals as goal

pub returns-clause-quiet : goal.returns-clause-quiet
returns-clause-quiet c = recorded_few

pub returns-clause-printing : goal.returns-clause-printing
returns-clause-printing c = recorded_printing
