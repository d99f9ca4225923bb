-- Nothing is kept where there are no lines.
use Rattle.layers.proofs.Changes.{empty_reads, empty_puts}
use Rattle.layers.proofs.lines.Lines.new.Goals as goal

pub returns-clause-reads : goal.returns-clause-reads
returns-clause-reads c a = empty_reads _ a c.new.ensures.empty

pub returns-clause-puts : goal.returns-clause-puts
returns-clause-puts c a = empty_puts _ a c.new.ensures.empty
