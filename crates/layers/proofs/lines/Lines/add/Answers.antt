-- The line is new, and nothing is kept of it; all other lines stay.
use Rattle.std.proofs.Common.{nat_eq, ◌∙◌}
use Rattle.std.specs.Prelude.{slice_get}
use Rattle.indexmap.proofs.CallerLemmas.{insert_entry-new}
use Rattle.layers.proofs.Changes.{added, last_place, on_ok_is}
use Rattle.layers.proofs.lines.Lines.add.Goals as goal

pub returns-clause-place : goal.returns-clause-place
returns-clause-place c =
    let s = c.args.self.now in
    let sure = c.insert.ensures.succeeds c.requires.room in
    let entries = on_ok_is c.insert.result sure c.insert.ensures.entries ∙ insert_entry-new nat_eq s.map c.args.n c.new.result c.requires.new in
    (c.new.result, (λ i. slice_get (entries i) (c.len-place.ensures.len i)) ∙ last_place s.map.entries (c.args.n, c.new.result))

pub returns-clause-same : goal.returns-clause-same
returns-clause-same c =
    let s = c.args.self.now in
    let sure = c.insert.ensures.succeeds c.requires.room in
    let updates = on_ok_is c.insert.result sure c.insert.ensures.updates in
    added s _ c.args.n c.new.result c.requires.new updates.0 c.new.ensures.reads c.new.ensures.puts
