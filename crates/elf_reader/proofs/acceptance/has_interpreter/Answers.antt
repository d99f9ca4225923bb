-- The next header decides, or the others do where it is no interpreter's.
use Rattle.std.proofs.Common.{◌≡◌, ap, refl, false}
use Rattle.std.proofs.lemmas.Bool.{ne_eqb}
use Rattle.std.specs.List.{list_any}
use Rattle.elf_reader.specs.Refusal.{is_interpreter}
use Rattle.elf_reader.proofs.Headers.{headers_from-next}
use Rattle.elf_reader.proofs.acceptance.has_interpreter.Goals as goal

pub returns-then-read-eq-PT_INTERP : goal.returns-then-read-eq-PT_INTERP
returns-then-read-eq-PT_INTERP c =
    let next = ap (list_any is_interpreter) (headers_from-next c.args.file.now c.args.header.now c.read.result c.loop-number.number c.args.header.now.e_phnum c.loop-number-test.true c.read.ensures) in
    rw (← c.loop-number.invariant, next, c.if-read-eq-PT_INTERP.true) refl

pub loop-number-preserved : goal.loop-number-preserved
loop-number-preserved c =
    let next = ap (list_any is_interpreter) (headers_from-next c.args.file.now c.args.header.now c.read.result c.loop-number.number c.args.header.now.e_phnum c.loop-number-test.true c.read.ensures) in
    let other : is_interpreter c.read.result ≡ false = ne_eqb _ _ c.if-read-eq-PT_INTERP.false in
    rw (← c.loop-number.invariant, next, other) refl
