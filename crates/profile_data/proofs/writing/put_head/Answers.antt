-- Five numbers, one after another.
use Rattle.std.proofs.Common.{◌∙◌, arith}
use Rattle.std.proofs.lemmas.Result.{on_ok_weaker}
use Rattle.profile_data.specs.Profile.{Tally}
use Rattle.profile_data.proofs.Appended.{from_bool_is, head_put}
use Rattle.profile_data.proofs.writing.put_head.Goals as goal

pub returns : goal.returns
returns c =
    let t : Tally = record { pc = c.row.inside.pc; executed = c.row.inside.executed; taken = c.row.inside.taken; read = c.row.inside.read; changed = c.row.inside.changed; targets = c.row.inside.targets.items } in
    on_ok_weaker c.put_words-3.result
    (head_put c.args.out.now.items c.put_words.new.out.items c.put_words-2.new.out.items c.put_long.new.out.items c.put_long-2.new.out.items c.put_words-3.new.out.items t c.args.row.now c.from.result c.from-2.result c.len.result c.row.view_is (c.from.ensures ∙ from_bool_is c.row.inside.read) (c.from-2.ensures ∙ from_bool_is c.row.inside.changed) (omega arith)
    c.in_ok-put_words.ensures c.in_ok-put_words-2.ensures c.in_ok-put_long.ensures c.in_ok-put_long-2.ensures)
    c.put_words-3.ensures
