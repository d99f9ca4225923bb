-- Each test speaks for its rows of the table, and those in front hold no refusal.
use Rattle.std.proofs.Common.{refl}
use Rattle.std.proofs.lemmas.Result.{err_from_is_err_and}
use Rattle.elf_reader.proofs.Rows.{refused_by_identification, refused_by_header, refusal-past_header}
use Rattle.elf_reader.proofs.acceptance.accept.Goals as goal

pub returns-in_err-test_identification-clause-refused : goal.returns-in_err-test_identification-clause-refused
returns-in_err-test_identification-clause-refused c =
    let p = err_from_is_err_and c.from_residual.result c.from_residual.ensures.1 in
    rw (p.1, p.2) (refused_by_identification _ _ c.in_err-test_identification.ensures.refused)

pub returns-in_err-test_header-clause-refused : goal.returns-in_err-test_header-clause-refused
returns-in_err-test_header-clause-refused c =
    let p = err_from_is_err_and c.from_residual-in_err-test_header.result c.from_residual-in_err-test_header.ensures.1 in
    rw (p.1, p.2) (refused_by_header _ _ _ c.read-header.ensures c.in_ok-test_identification.ensures.refused c.in_err-test_header.ensures.refused)

pub returns-then-has_interpreter-clause-refused : goal.returns-then-has_interpreter-clause-refused
returns-then-has_interpreter-clause-refused c =
    let whole = refusal-past_header c.args.file.now c.read-header.result c.read-header.ensures c.in_ok-test_identification.ensures.refused c.in_ok-test_header.ensures.refused in
    rw (whole, ← c.if-has_interpreter.ensures) refl

pub returns-in_err-test_loads-clause-refused : goal.returns-in_err-test_loads-clause-refused
returns-in_err-test_loads-clause-refused c =
    let p = err_from_is_err_and c.from_residual-in_err-test_loads.result c.from_residual-in_err-test_loads.ensures.1 in
    let whole = refusal-past_header c.args.file.now c.read-header.result c.read-header.ensures c.in_ok-test_identification.ensures.refused c.in_ok-test_header.ensures.refused in
    rw (p.1, p.2, whole, ← c.if-has_interpreter.ensures) c.in_err-test_loads.ensures

pub returns-clause-refused : goal.returns-clause-refused
returns-clause-refused c =
    let whole = refusal-past_header c.args.file.now c.read-header.result c.read-header.ensures c.in_ok-test_identification.ensures.refused c.in_ok-test_header.ensures.refused in
    rw (whole, ← c.if-has_interpreter.ensures) c.in_ok-test_loads.ensures
