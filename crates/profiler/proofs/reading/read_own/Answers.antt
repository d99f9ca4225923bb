-- Byte by byte.
use Rattle.std.proofs.Common.{◌∙◌, ◌+◌, ◌%◌, ◌^◌, ap, sym}
use Rattle.indexmap.specs.IndexMap.{values}
use Rattle.profile_laws.specs.Tally.{marked}
use Rattle.access_trace.specs.Shadows.{mark_at}
use Rattle.access_trace.proofs.Places.{among_them}
use Rattle.profiler.proofs.ReadBack.{read_more, read_all}
use Rattle.profiler.proofs.reading.read_own.Goals as goal

pub loop-i-preserved : goal.loop-i-preserved
loop-i-preserved g c =
    let at = g.M.Memory.at in
    let i = c.loop-i.i in
    let own = c.own-mark.ensures ∙ sym (c.requires.own ((c.args.span.from + i) % 2 ^ 32) (among_them i c.args.span.count c.args.span.from c.loop-i-test.true)) in
    record {
      to_do =
          read_more (mark_at at c.args.writers.now) c.args.span.count c.args.span.from i (values c.loop-i.table.rows) (values c.note.new.table.rows) c.loop-i-test.true
          (c.note.ensures.rows ∙ ap (λ w. marked w (values c.loop-i.table.rows)) own)
          ∙ c.loop-i.invariant.to_do;
      keyed = c.note.ensures.keyed;
      noted = c.note.ensures.noted;
    }

pub returns-clause-rows : goal.returns-clause-rows
returns-clause-rows g c = read_all (mark_at g.M.Memory.at c.args.writers.now) c.args.span.count c.args.span.from c.loop-i.i (values c.loop-i.table.rows) _ c.loop-i-test.false c.loop-i.invariant.to_do
