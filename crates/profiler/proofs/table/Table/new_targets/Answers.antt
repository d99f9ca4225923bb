-- The look-up finds the row of the address.
use Rattle.std.proofs.Common.{◌+◌, ap, sym, ◌∙◌}
use Rattle.std.specs.Option.{option_copied}
use Rattle.indexmap.specs.IndexMap.{values}
use Rattle.profile_data.specs.Profile.{target_count}
use Rattle.profile_data.proofs.Lookup.{get_keyed}
use Rattle.profiler.specs.Visits.{visit_of}
use Rattle.profiler.proofs.Fits.{found_more, none_more}
use Rattle.profiler.proofs.table.Table.new_targets.Goals as goal

pub returns-in-Some-clause-added : goal.returns-in-Some-clause-added
returns-in-Some-clause-added c =
    found_more (visit_of c.args.visit.now) (values c.args.self.now.rows) c.in-Some.row.now c.new_target.result
    (sym (get_keyed c.args.self.now.rows c.args.visit.now.pc c.requires.keyed) ∙ sym c.get.ensures.value ∙ ap option_copied c.in-Some.is)
    c.new_target.ensures.added

pub returns-in-None-clause-added : goal.returns-in-None-clause-added
returns-in-None-clause-added c =
    none_more (visit_of c.args.visit.now) (values c.args.self.now.rows)
    (sym (get_keyed c.args.self.now.rows c.args.visit.now.pc c.requires.keyed) ∙ sym c.get.ensures.value ∙ ap option_copied c.in-None.is)
    ∙ ap (λ n. target_count (values c.args.self.now.rows) + n) (sym c.first_target.ensures.added)
