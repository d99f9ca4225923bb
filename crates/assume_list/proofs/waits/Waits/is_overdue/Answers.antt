-- None has waited for the whole limit before the position that is kept.
use Rattle.assume_list.specs.Shown.{shown}
use Rattle.assume_list.proofs.Early.{early_none}
use Rattle.assume_list.proofs.waits.Waits.is_overdue.Goals as goal

pub returns-then-position-self-clause-late : goal.returns-then-position-self-clause-late
returns-then-position-self-clause-late c = early_none c.args.self.now.due c.args.self.now.limit c.args.position (shown c.args.self.now) c.requires.early c.if-position-self.true
