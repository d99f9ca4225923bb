-- The file that was read, and accepted.
use Rattle.std.proofs.Common.{sym, ap, ◌∙◌}
use Rattle.profile_data.specs.Reading.{profile_from}
use Rattle.mssp_tool.proofs.reading.profile_in.Goals as goal

pub returns-in-Ok-clause-answer : goal.returns-in-Ok-clause-answer
returns-in-Ok-clause-answer g c =
    let same = c.deref.ensures.value in
    (c.in_ok-file.file.items, record { read = c.in_ok-file.ensures.answer; accepted = ap profile_from (sym same) ∙ c.in-Ok.ensures.exact; is_profile = c.in-Ok.ensures.found.0 })
