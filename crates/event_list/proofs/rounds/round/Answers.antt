-- The slaves stand after six events, and Commit stands last.
use Rattle.std.proofs.Common.{◌+◌, ◌%◌, arith}
use Rattle.event_list.proofs.Places.{slave_at, commit_at}
use Rattle.event_list.proofs.rounds.round.Goals as goal

pub returns-in_default-clause-event : goal.returns-in_default-clause-event
returns-in_default-clause-event c = rw (← c.from-slaves.ensures) (slave_at c.from-slaves.result (c.args.k % (c.from-slaves.result + 7)) (omega arith) c.if-place-slaves.true)

pub returns-in_default-2-clause-event : goal.returns-in_default-2-clause-event
returns-in_default-2-clause-event c = rw (← c.from-slaves.ensures) (commit_at c.from-slaves.result (c.args.k % (c.from-slaves.result + 7)) (omega arith))
