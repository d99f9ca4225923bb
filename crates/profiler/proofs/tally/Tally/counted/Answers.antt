-- What is read takes no room.
use Rattle.std.proofs.Common.{◌∙◌, ap, refl, sym, subst, List}
use Rattle.indexmap.specs.IndexMap.{values}
use Rattle.profile_data.specs.Profile.{Tally}
use Rattle.profile_laws.specs.Tally.{places, bytes_in, read_back, visited}
use Rattle.access_trace.specs.Spans.{span_of}
use Rattle.access_trace.specs.Shadows.{mark_at}
use Rattle.profiler.specs.Rows.{EachHasRoom}
use Rattle.profiler.specs.Visits.{visit_of}
use Rattle.profiler.proofs.ReadBack.{twice_stays}
use Rattle.profiler.proofs.tally.Tally.counted.Goals as goal

pub count-requires-clause-room : goal.count-requires-clause-room
count-requires-clause-room g c =
    (twice_stays (mark_at g.M.Memory.at c.args.self.now.writers) (places 4 c.args.visit.now.pc) (bytes_in (span_of c.args.visit.now.loads)) (values c.in_ok-table.table.rows) _ (values c.note_reads.new.table.rows)
    refl c.note_reads.ensures.rows).room (subst EachHasRoom (sym c.in_ok-table.ensures.rows) c.requires.room)

pub returns-clause-rows : goal.returns-clause-rows
returns-clause-rows g c =
    let w = mark_at g.M.Memory.at c.args.self.now.writers in
    c.in_ok-count.ensures.rows
    ∙ ap (visited (visit_of c.args.visit.now)) (c.note_reads.ensures.rows
    ∙ ap (λ (rows : List Tally). read_back w (bytes_in (span_of c.args.visit.now.loads)) (read_back w (places 4 c.args.visit.now.pc) rows)) c.in_ok-table.ensures.rows)
