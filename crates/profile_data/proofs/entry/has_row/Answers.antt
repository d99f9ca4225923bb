-- The map has a key exactly where one of its rows has it.
use Rattle.std.proofs.Common.{◌∙◌, ap, is_some}
use Rattle.profile_data.proofs.Lookup.{get_keyed}
use Rattle.profile_data.proofs.entry.has_row.Goals as goal

pub returns : goal.returns
returns c = c.contains_key.ensures ∙ ap is_some (get_keyed c.args.rows.now c.args.pc c.requires)
