-- One element of the array is set.
use Rattle.std.proofs.Common.{rules}
use Rattle.master.proofs.Registers.{set_at}
use Rattle.master.proofs.word.set_register.Goals as goal

pub returns : goal.returns
returns c n = set_at c.args.regs.now c.args.r c.args.v n (search rules)
