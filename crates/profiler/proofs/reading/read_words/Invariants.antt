use Rattle.std.proofs.Common.{◌≡◌}
use Rattle.indexmap.specs.IndexMap.{values}
use Rattle.profile_data.specs.Keyed.{IsKeyed}
use Rattle.profile_laws.specs.Tally.{bytes_in, read_back}
use Rattle.access_trace.specs.Spans.{span_of}
use Rattle.access_trace.specs.Shadows.{mark_at}
use Rattle.profiler.specs.Noted.{AreNoted}
use Rattle.profiler.proofs.reading.read_words.Given as goal

abbrev pub invariant-loop-left : goal.invariant-loop-left
invariant-loop-left g l = record {
  to_do : read_back (mark_at g.M.Memory.at l.writers) (bytes_in (span_of l.left)) (values l.table.rows) ≡ read_back (mark_at g.M.Memory.at l.writers) (bytes_in (span_of l.fn.span)) (values l.fn.table.rows);
  keyed : IsKeyed l.table.rows;
  noted : AreNoted l.noted (values l.table.rows);
}

abbrev pub decreases-loop-left : goal.decreases-loop-left
decreases-loop-left g l = l.left.count
