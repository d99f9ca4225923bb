-- The numbers before the targets, and the targets.
use Rattle.std.proofs.lemmas.Result.{on_ok_weaker}
use Rattle.profile_data.specs.Profile.{Tally}
use Rattle.profile_data.proofs.Appended.{row_put}
use Rattle.profile_data.proofs.writing.put_row.Goals as goal

pub returns : goal.returns
returns c =
    let t : Tally = record { pc = c.row.inside.pc; executed = c.row.inside.executed; taken = c.row.inside.taken; read = c.row.inside.read; changed = c.row.inside.changed; targets = c.row.inside.targets.items } in
    on_ok_weaker c.put_words.result
    (row_put c.args.out.now.items c.put_head.new.out.items c.put_words.new.out.items t c.args.row.now c.deref.result.now c.row.view_is c.deref.ensures.value c.in_ok-put_head.ensures)
    c.put_words.ensures
