-- What is noted now is noted too.
use Rattle.std.proofs.Common.{◌/◌, ◌%◌, sym, subst, slice_set}
use Rattle.indexmap.specs.IndexMap.{values}
use Rattle.profiler.specs.Noted.{AreNoted}
use Rattle.profiler.proofs.ReadBack.{noted_too}
use Rattle.profiler.proofs.reading.note.Goals as goal

pub returns-then-noted-place-clause-noted : goal.returns-then-noted-place-clause-noted
returns-then-noted-place-clause-noted c =
    let place = c.args.mark / 4 % 64 in
    subst (AreNoted (slice_set c.args.noted.now place c.args.mark)) (sym c.mark.ensures.rows)
    (noted_too c.args.noted.now place c.args.mark (values c.args.table.now.rows) c.requires.noted)
