-- By the rounds of its worlds, and by where events end a run.
use Rattle.adaptive_runs.proofs.Worlds.{comes, stops}
use Rattle.adaptive_runs.proofs.adaptive_runs_come.Goals as goal

pub returns-clause-comes : goal.returns-clause-comes
returns-clause-comes c p limit is_plan far k not_yet = comes p limit is_plan far k not_yet

pub returns-clause-stops : goal.returns-clause-stops
returns-clause-stops c p limit is_plan runs far k least stop = stops p limit is_plan runs far k least stop
