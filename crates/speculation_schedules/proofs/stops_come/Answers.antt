-- What is kept, and how many events are enough.
use Rattle.speculation_schedules.proofs.After.{holds}
use Rattle.speculation_schedules.proofs.Rounds.{rounds_come}
use Rattle.speculation_schedules.proofs.Stops.{steps_come}
use Rattle.speculation_schedules.proofs.stops_come.Goals as goal

pub returns-clause-kept : goal.returns-clause-kept
returns-clause-kept c w known event k = holds w known event k

pub returns-clause-rounds : goal.returns-clause-rounds
returns-clause-rounds c w known spends far k not_yet = rounds_come w known spends far k not_yet

pub returns-clause-alone : goal.returns-clause-alone
returns-clause-alone c w known far k not_yet = steps_come w known far k not_yet
