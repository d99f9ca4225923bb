-- What is kept, and how many events are enough, whatever the worlds.
use Rattle.speculation_schedules.proofs.Exchanged.{holds}
use Rattle.speculation_schedules.proofs.Rounds.{come_in_rounds}
use Rattle.speculation_schedules.proofs.exchanges_come.Goals as goal

pub returns-clause-kept : goal.returns-clause-kept
returns-clause-kept c w event exchanged k = holds w event exchanged k

pub returns-clause-rounds : goal.returns-clause-rounds
returns-clause-rounds c w slaves limit exchanged far k not_yet = come_in_rounds slaves w limit exchanged far k not_yet
