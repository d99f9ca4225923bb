-- The files that stay, and what the image of the files that were read comes to.
use Rattle.std.proofs.Common.{◌≡◌, ℕ, List, Err, ap, sym, ◌∙◌, subst}
use Rattle.command_line.specs.Command.{shown_distill}
use Rattle.dist_image.specs.Image.{Distilled}
use Rattle.dist_image.specs.Bytes.{bytes_of}
use Rattle.layout_rules.specs.declared.Options.{Options}
use Rattle.layout_rules.specs.Images.{distilled}
use Rattle.cuts.specs.Words.{word_in}
use Rattle.distiller.specs.Given.{loads, AreGiven}
use Rattle.mssp_tool.specs.Files.{AreNamedValues, Saved}
use Rattle.mssp_tool.specs.Distill.{image_of}
use Rattle.mssp_tool.proofs.Reports.{same_stay}
use Rattle.mssp_tool.proofs.Saves.{saved_within, saved_changes}
use Rattle.mssp_tool.proofs.Distillation.{distilled_cause, empty_cause}
use Rattle.mssp_tool.proofs.Found.{named_given}
use Rattle.mssp_tool.proofs.distill.distill.Goals as goal

pub returns-in-Err-clause-files : goal.returns-in-Err-clause-files
returns-in-Err-clause-files g c =
    same_stay (g.S.Store.told c.args.store.now) (g.S.Store.told c.subject_in.new.store) (shown_distill c.args.distill.now).output c.subject_in.ensures.files

pub distill_same-requires : goal.distill_same-requires
distill_same-requires g c = record {
  range = c.options_of-options.ensures.in_range;
  given = subst AreGiven (sym c.as_slice-same.ensures.value) (named_given (g.S.Store.told c.args.store.now) (shown_distill c.args.distill.now).values c.in-Ok.subject.values.items c.in-Ok.ensures.answer.2);
}

pub returns-in-Ok-distill_same-clause-files : goal.returns-in-Ok-distill_same-clause-files
returns-in-Ok-distill_same-clause-files g c =
    let d = shown_distill c.args.distill.now in
    let first = c.subject_in.ensures in
    let bytes = bytes_of c.in-Ok-distill_same.image in
    saved_changes (record { told = g.S.Store.told c.args.store.now; before = g.S.Store.faults c.args.store.now; now = g.S.Store.faults c.save_image.new.store; failed = g.S.Store.failed c.save_image.new.store }) (g.S.Store.told c.save_image.new.store) d.output bytes c.save_image.result
    (saved_within (g.S.Store.told c.args.store.now) (g.S.Store.told c.subject_in.new.store) (g.S.Store.told c.save_image.new.store) (g.S.Store.faults c.args.store.now) (g.S.Store.faults c.subject_in.new.store) (g.S.Store.faults c.save_image.new.store) (g.S.Store.failed c.save_image.new.store) d.output bytes c.save_image.result first.files first.faults c.save_image.ensures)

pub returns-in-Ok-distill_same-clause-cause : goal.returns-in-Ok-distill_same-clause-cause
returns-in-Ok-distill_same-clause-cause g c =
    let d = shown_distill c.args.distill.now in
    let program = c.in-Ok.subject.program in
    let f = c.in-Ok.subject.profile in
    let same = c.as_slice-same.result.now in
    let first = c.subject_in.ensures in
    let has = c.in-Ok.ensures.answer in
    let asked = c.options_of-options.ensures in
    let is : c.in-Ok-distill_same.image ≡ image_of d program f same = c.in-Ok-distill_same.ensures.exact ∙ ap (λ (o : Options). distilled (word_in program) program.entry f (loads (word_in program) f.rows same) o) asked.options in
    distilled_cause d (g.S.Store.told c.args.store.now) program f same has.0 has.1
    (subst (λ (x : List (ℕ × ℕ)). AreNamedValues (g.S.Store.told c.args.store.now) d.values x) (sym c.as_slice-same.ensures.value) has.2)
    (g.S.Store.told c.subject_in.new.store) (g.S.Store.told c.save_image.new.store) (g.S.Store.faults c.args.store.now) (g.S.Store.faults c.subject_in.new.store) (g.S.Store.faults c.save_image.new.store) (g.S.Store.failed c.save_image.new.store)
    c.save_image.result first.files first.faults c.in-Ok-distill_same.ensures.some
    (subst (λ (x : Distilled). Saved (record { told = g.S.Store.told c.subject_in.new.store; before = g.S.Store.faults c.subject_in.new.store; now = g.S.Store.faults c.save_image.new.store; failed = g.S.Store.failed c.save_image.new.store }) (g.S.Store.told c.save_image.new.store) d.output (bytes_of x) c.save_image.result) is c.save_image.ensures)

pub returns-in-Err-Empty-clause-files : goal.returns-in-Err-Empty-clause-files
returns-in-Err-Empty-clause-files g c =
    same_stay (g.S.Store.told c.args.store.now) (g.S.Store.told c.subject_in.new.store) (shown_distill c.args.distill.now).output c.subject_in.ensures.files

pub returns-in-Err-Empty-clause-cause : goal.returns-in-Err-Empty-clause-cause
returns-in-Err-Empty-clause-cause g c =
    let d = shown_distill c.args.distill.now in
    let has = c.in-Ok.ensures.answer in
    empty_cause d (g.S.Store.told c.args.store.now) c.in-Ok.subject.program c.in-Ok.subject.profile c.in-Ok.subject.values.items has.0 has.1 has.2
    (g.S.Store.told c.subject_in.new.store) (g.S.Store.faults c.args.store.now) (g.S.Store.faults c.subject_in.new.store) (g.S.Store.failed c.subject_in.new.store) c.subject_in.ensures.files
    (c.in-Err-Empty.ensures.empty (ap Err c.in-Err-Empty.field-0-is))

pub returns-clause-files : goal.returns-clause-files
returns-clause-files g c =
    same_stay (g.S.Store.told c.args.store.now) (g.S.Store.told c.subject_in.new.store) (shown_distill c.args.distill.now).output c.subject_in.ensures.files
