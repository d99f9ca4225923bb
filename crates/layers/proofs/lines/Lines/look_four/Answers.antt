-- What a look at four bytes of the line gives and leaves, by address.
use Rattle.layers.proofs.Changes.{four_at, stays_there}
use Rattle.layers.proofs.lines.Lines.look_four.Goals as goal

pub returns-clause-is : goal.returns-clause-is
returns-clause-is c =
    let e = c.pair_mut-line.ensures in
    four_at c.args.self.now c.args.a c.args.place c.ranges.a.fits e.unique c.requires.place _ _ c.look_four.new.self e.value c.requires.within c.look_four.result c.look_four.ensures

pub returns-clause-place : goal.returns-clause-place
returns-clause-place c =
    let e = c.pair_mut-line.ensures in
    stays_there c.args.self.now c.args.a c.args.place c.ranges.a.fits e.unique c.requires.place _ _ c.look_four.new.self e.value
