-- Four bits as a number.
use Rattle.layers.proofs.Marks.{none_from, all_from}
use Rattle.layers.proofs.line.bits_from.Goals as goal

pub returns-clause-none : goal.returns-clause-none
returns-clause-none c z j e = none_from c.args.mask c.args.i j z e

pub returns-clause-all : goal.returns-clause-all
returns-clause-all c z j e = all_from c.args.mask c.args.i j z e
