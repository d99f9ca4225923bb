-- The line was there, or is added.
use Rattle.layers.proofs.Changes.{same_map, same_then}
use Rattle.layers.proofs.record.Record.bring_to_write.Goals as goal

pub returns-in-Some-clause-same : goal.returns-in-Some-clause-same
returns-in-Some-clause-same c = same_map c.args.self.now.lines c.find.new.self c.find.ensures.map

pub returns-in-None-clause-same : goal.returns-in-None-clause-same
returns-in-None-clause-same c = same_then c.args.self.now.lines c.find.new.self c.add.new.self (same_map c.args.self.now.lines c.find.new.self c.find.ensures.map) c.add.ensures.same
