-- What a look at a byte of the line gives and leaves, by address.
use Rattle.std.proofs.Common.{sym, ◌∙◌, not, is_some}
use Rattle.layers.proofs.Changes.{own_put, puts_at_stay, read_one_at, stays_there}
use Rattle.layers.proofs.lines.Lines.look.Goals as goal

pub returns-clause-value : goal.returns-clause-value
returns-clause-value c =
    let e = c.pair_mut-line.ensures in
    c.look.ensures.value ∙ sym (own_put c.args.self.now c.args.a c.args.place c.ranges.a.fits e.unique c.requires _ _ c.look.new.self e.value)

pub returns-clause-puts : goal.returns-clause-puts
returns-clause-puts c =
    let e = c.pair_mut-line.ensures in
    puts_at_stay c.args.self.now c.args.a c.args.place c.ranges.a.fits e.unique c.requires _ _ c.look.new.self e.value c.look.ensures.puts

pub returns-clause-reads : goal.returns-clause-reads
returns-clause-reads c =
    let e = c.pair_mut-line.ensures in
    read_one_at c.args.self.now c.args.a c.args.place c.ranges.a.fits e.unique c.requires _ _ c.look.new.self e.value (not (is_some c.look.result)) c.look.ensures.reads

pub returns-clause-place : goal.returns-clause-place
returns-clause-place c =
    let e = c.pair_mut-line.ensures in
    stays_there c.args.self.now c.args.a c.args.place c.ranges.a.fits e.unique c.requires _ _ c.look.new.self e.value
