-- Behind all that was put there is nothing.
use Rattle.report.proofs.Gained.{gains-none}
use Rattle.speculative_runs.proofs.Advances.{nothing_behind}
use Rattle.speculative_runs.proofs.speculating.put_after.Goals as goal

pub returns-in-Idle-clause-ok : goal.returns-in-Idle-clause-ok
returns-in-Idle-clause-ok g c = gains-none (g.O.Sink.told c.args.out.now) _ (nothing_behind c.args.from _ (c.requires.idle c.in-Idle.is))
