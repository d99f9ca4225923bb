-- Five numbers, one after another.
use Rattle.std.proofs.Common.{◌∙◌, ap}
use Rattle.profile_data.specs.Bytes.{mark}
use Rattle.std.proofs.lemmas.Result.{on_ok_weaker}
use Rattle.profile_data.proofs.Appended.{from_bool_is, header_put}
use Rattle.profile_data.proofs.writing.put_header.Goals as goal

pub returns : goal.returns
returns c =
    on_ok_weaker c.put_words-4.result
    (header_put c.args.out.now.items c.put_words.new.out.items c.put_words-2.new.out.items c.put_long.new.out.items c.put_words-3.new.out.items c.put_words-4.new.out.items c.args.p.now c.steps.result c.from.result c.len.result c.steps.ensures.steps (c.from.ensures ∙ from_bool_is c.ended.result ∙ ap mark c.ended.ensures) c.len.ensures.len
    c.in_ok-put_words.ensures c.in_ok-put_words-2.ensures c.in_ok-put_long.ensures c.in_ok-put_words-3.ensures)
    c.put_words-4.ensures
