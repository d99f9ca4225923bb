-- The next header decides, or the others do where it has no fault.
use Rattle.std.proofs.Common.{sym}
use Rattle.std.proofs.lemmas.Result.{err_from_is_err_and}
use Rattle.elf_reader.specs.Refusal.{fault_rows}
use Rattle.elf_reader.proofs.Rows.{first-append-none, first-append-some, faults_from-next}
use Rattle.elf_reader.proofs.acceptance.test_loads.Goals as goal

pub returns-in_err-test_load : goal.returns-in_err-test_load
returns-in_err-test_load c =
    let p = err_from_is_err_and c.from_residual.result c.from_residual.ensures.1 in
    let next = faults_from-next c.args.file.now c.args.header.now c.read-entry.result c.loop-number.number c.args.header.now.e_phnum c.loop-number-test.true c.read-entry.ensures in
    rw (p.1, p.2, ← c.loop-number.invariant, next) (first-append-some (fault_rows c.args.file.now c.loop-number.number c.read-entry.result) _ _ (rw c.from.ensures at c.in_err-test_load.ensures))

pub loop-number-preserved : goal.loop-number-preserved
loop-number-preserved c =
    let next = faults_from-next c.args.file.now c.args.header.now c.read-entry.result c.loop-number.number c.args.header.now.e_phnum c.loop-number-test.true c.read-entry.ensures in
    rw (← c.loop-number.invariant, next) (sym (first-append-none (fault_rows c.args.file.now c.loop-number.number c.read-entry.result) _ (rw c.from.ensures at c.in_ok-test_load.ensures)))
