-- The row goes last.
use Rattle.std.proofs.Common.{refl, ap, ◌∙◌}
use Rattle.std.specs.Prelude.{nat_eq}
use Rattle.indexmap.specs.IndexMap.{insert_entry}
use Rattle.profile_data.specs.Profile.{Tally}
use Rattle.profiler.proofs.Entries.{pushed}
use Rattle.profiler.proofs.rows.close_in.Goals as goal

pub returns-clause-rows : goal.returns-clause-rows
returns-clause-rows c =
    (pushed c.args.rows.now c.insert.new.self c.args.counts.now.pc _ c.args.counts.now c.requires.keyed c.in_ok-row.ensures refl c.requires.new (c.in_ok-insert.ensures.entries ∙ ap (λ (t : Tally). insert_entry nat_eq c.args.rows.now.entries t.pc c.in_ok-row.row) c.counts.view_is)).0

pub returns-clause-keyed : goal.returns-clause-keyed
returns-clause-keyed c =
    (pushed c.args.rows.now c.insert.new.self c.args.counts.now.pc _ c.args.counts.now c.requires.keyed c.in_ok-row.ensures refl c.requires.new (c.in_ok-insert.ensures.entries ∙ ap (λ (t : Tally). insert_entry nat_eq c.args.rows.now.entries t.pc c.in_ok-row.row) c.counts.view_is)).1
