-- The look-up finds the row of the address.
use Rattle.std.proofs.Common.{cond, ap, sym, ◌∙◌, is_some}
use Rattle.std.specs.Option.{option_copied}
use Rattle.profile_data.proofs.Lookup.{get_keyed}
use Rattle.profiler.proofs.table.Table.new_rows.Goals as goal

pub returns-in-Some : goal.returns-in-Some
returns-in-Some c =
    sym (ap (λ b. cond b 0 1) (sym (ap is_some (get_keyed c.args.self.now.rows c.args.pc c.requires)) ∙ ap is_some (sym c.get.ensures.value ∙ ap option_copied c.in-Some.is)))

pub returns-in-None : goal.returns-in-None
returns-in-None c =
    sym (ap (λ b. cond b 0 1) (sym (ap is_some (get_keyed c.args.self.now.rows c.args.pc c.requires)) ∙ ap is_some (sym c.get.ensures.value ∙ ap option_copied c.in-None.is)))
