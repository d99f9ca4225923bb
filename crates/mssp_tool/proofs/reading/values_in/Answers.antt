-- The file that was read, and accepted.
use Rattle.std.proofs.Common.{sym, ap, ◌∙◌}
use Rattle.load_values.specs.Reading.{values_from}
use Rattle.mssp_tool.proofs.reading.values_in.Goals as goal

pub returns-in-Ok-clause-answer : goal.returns-in-Ok-clause-answer
returns-in-Ok-clause-answer g c =
    let same = c.deref.ensures.value in
    (c.in_ok-file.file.items, record { read = c.in_ok-file.ensures.answer; accepted = ap values_from (sym same) ∙ c.in-Ok.ensures.exact; are_values = c.in-Ok.ensures.found.0 })
