-- Bytes that have the mark of their word are noted as one.
use Rattle.std.proofs.Common.{◌∙◌}
use Rattle.indexmap.specs.IndexMap.{values}
use Rattle.access_trace.specs.Shadows.{mark_at}
use Rattle.profiler.proofs.ReadBack.{all_alike}
use Rattle.profiler.proofs.reading.read_word.Goals as goal

pub returns-in-Some-clause-rows : goal.returns-in-Some-clause-rows
returns-in-Some-clause-rows g c =
    c.note.ensures.rows
    ∙ all_alike (mark_at g.M.Memory.at c.args.writers.now) c.in-Some.mark c.args.span.count c.args.span.from (values c.args.table.now.rows) c.requires.some c.in-Some.ensures.marks
