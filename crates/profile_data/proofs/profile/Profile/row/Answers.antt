-- The map's own look-up finds the row.
use Rattle.std.proofs.Common.{◌∙◌, ap}
use Rattle.profile_data.specs.Profile.{Profiled, row_at}
use Rattle.profile_data.proofs.Lookup.{get_keyed}
use Rattle.profile_data.proofs.profile.Profile.row.Goals as goal

pub returns : goal.returns
returns c = c.get.ensures.value ∙ get_keyed c.self.inside.rows c.args.pc c.self.invariant.0 ∙ ap (λ (p : Profiled). row_at p.rows c.args.pc) c.self.view_is
