-- The laws of exchanges with these two worlds put in.
use Rattle.speculation_example.proofs.Exchange.{in_whole_rounds, sequential, comes}
use Rattle.speculation_example.proofs.exchanges_apply.Goals as goal

pub returns-clause-met : goal.returns-clause-met
returns-clause-met c = in_whole_rounds

pub returns-clause-sequential : goal.returns-clause-sequential
returns-clause-sequential c = sequential

pub returns-clause-comes : goal.returns-clause-comes
returns-clause-comes c = comes
