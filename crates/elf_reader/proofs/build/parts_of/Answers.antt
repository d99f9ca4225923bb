-- The next header has no fault, and its part, if it asks for one, is the next.
use Rattle.std.proofs.Common.{◌+◌, ◌-◌, sym, eq-eqb}
use Rattle.std.proofs.lemmas.Bool.{ne_eqb}
use Rattle.elf_reader.specs.Header.{headers_from}
use Rattle.elf_reader.specs.Refusal.{faults_from, fault_rows}
use Rattle.elf_reader.proofs.Faults.{is_sound}
use Rattle.elf_reader.proofs.Headers.{headers_from-next}
use Rattle.elf_reader.proofs.Parts.{segments-push, segments-skip}
use Rattle.elf_reader.proofs.Rows.{none-append, faults_from-next}
use Rattle.elf_reader.proofs.build.parts_of.Goals as goal
use Rattle.elf_reader.proofs.build.parts_of.Goals.{then-entry-eq-PT_LOAD+in_ok-part_of+in_ok-push, else-entry-eq-PT_LOAD}

pub part_of-requires : goal.part_of-requires
part_of-requires c =
    let next = faults_from-next c.args.file.now c.args.header.now c.read-entry.result c.loop-number.number c.args.header.now.e_phnum c.loop-number-test.true c.read-entry.ensures in
    let faults = none-append (fault_rows c.args.file.now c.loop-number.number c.read-entry.result) _ (rw next at (sym c.loop-number.invariant.sound)) in
    let sound = is_sound _ _ _ faults.0 (eq-eqb _ _ c.if-entry-eq-PT_LOAD.true) in
    record { inside = sound.inside; fits = sound.fits }

pub loop-number-preserved : goal.loop-number-preserved
loop-number-preserved c =
    let next = headers_from-next c.args.file.now c.args.header.now c.read-entry.result c.loop-number.number c.args.header.now.e_phnum c.loop-number-test.true c.read-entry.ensures in
    let left = headers_from c.args.file.now c.args.header.now (c.loop-number.number + 1) (c.args.header.now.e_phnum - (c.loop-number.number + 1)) in
    let parts = rw next at c.loop-number.invariant.parts in
    let faults = none-append (fault_rows c.args.file.now c.loop-number.number c.read-entry.result) (faults_from c.args.file.now (c.loop-number.number + 1) left) (rw next at (sym c.loop-number.invariant.sound)) in
    record {
      sound = sym faults.1;
      parts = elim c.if-entry-eq-PT_LOAD.branch [
        | then-entry-eq-PT_LOAD+in_ok-part_of+in_ok-push w ↦
            let part = w.in_ok-part_of.ensures in
            let pushed = rw part at w.in_ok-push.ensures.items in
            rw (w.parts-is, pushed) (segments-push c.args.file.now c.read-entry.result left _ _ (eq-eqb _ _ w.if-entry-eq-PT_LOAD.true) parts)
        | else-entry-eq-PT_LOAD w ↦ rw w.parts-is (segments-skip c.args.file.now c.read-entry.result left _ _ (ne_eqb _ _ w.if-entry-eq-PT_LOAD.false) parts)
      ];
    }
