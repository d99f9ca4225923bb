-- What is written is the list's bytes, which are read as the list.
use Rattle.std.proofs.Common.{◌≡◌, ◌∙◌, ap, rules}
use Rattle.load_values.specs.Bytes.{bytes_of}
use Rattle.load_values.specs.Reading.{values_from}
use Rattle.load_values.proofs.Whole.{values_again}
use Rattle.load_values.proofs.writing.write_values.Goals as goal

pub returns-clause-back : goal.returns-clause-back
returns-clause-back c =
    let text : c.put_rows.new.out.items ≡ bytes_of c.args.v.now = search rules in
    ap values_from text ∙ values_again c.args.v.now c.requires
