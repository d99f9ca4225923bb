-- The place of a key is where its entry lies.
use Rattle.std.proofs.Common.{sym}
use Rattle.layers.proofs.Changes.{found_place}
use Rattle.layers.proofs.lines.Lines.find.Goals as goal

pub returns-in-Some-clause-place : goal.returns-in-Some-clause-place
returns-in-Some-clause-place c = found_place c.args.self.now.map.entries c.in-Some.place c.args.n (sym c.in-Some.ensures.index)
