-- A mark that is 0 adds none.
use Rattle.assume_list.proofs.Marks.{zero_adds}
use Rattle.assume_list.proofs.read.append_one.Goals as goal

pub returns-then-mark-eq0 : goal.returns-then-mark-eq0
returns-then-mark-eq0 c = λ at. zero_adds c.args.to.now.items c.args.mark at c.if-mark-eq0.true
