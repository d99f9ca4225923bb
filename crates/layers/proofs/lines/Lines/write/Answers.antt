-- A byte was put in that line alone.
use Rattle.layers.proofs.Changes.{put_one_at, reads_at_stay, stays_there}
use Rattle.layers.proofs.lines.Lines.write.Goals as goal

pub returns-clause-puts : goal.returns-clause-puts
returns-clause-puts c =
    let e = c.pair_mut-line.ensures in
    put_one_at c.args.self.now c.args.a c.args.place c.ranges.a.fits e.unique c.requires _ _ c.write.new.self e.value c.args.v c.write.ensures.puts

pub returns-clause-reads : goal.returns-clause-reads
returns-clause-reads c =
    let e = c.pair_mut-line.ensures in
    reads_at_stay c.args.self.now c.args.a c.args.place c.ranges.a.fits e.unique c.requires _ _ c.write.new.self e.value c.write.ensures.read

pub returns-clause-place : goal.returns-clause-place
returns-clause-place c =
    let e = c.pair_mut-line.ensures in
    stays_there c.args.self.now c.args.a c.args.place c.ranges.a.fits e.unique c.requires _ _ c.write.new.self e.value
