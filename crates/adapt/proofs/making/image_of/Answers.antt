-- The profile of the steps is one, and the image is by it.
use Rattle.std.proofs.Common.{◌∙◌, ◌≤◌, [], Err, true, ap, sym, subst, arith}
use Rattle.elf_reader.specs.Executable.{Executable}
use Rattle.dist_image.specs.Image.{Distilled}
use Rattle.fitting.specs.Fits.{Fits}
use Rattle.layout_rules.specs.Images.{distilled}
use Rattle.seq_machine.specs.Parts.{start_of}
use Rattle.cuts.specs.Words.{word_in}
use Rattle.profile_laws.specs.Profiles.{with_mark, IsProfileOf}
use Rattle.adapt.specs.Made.{default_options}
use Rattle.adapt.proofs.Made.{empty_made, image_made}
use Rattle.adapt.proofs.Laws.{distilled_small}
use Rattle.adapt.proofs.making.image_of.Goals as goal

pub returns-in-Ok-clause-image : goal.returns-in-Ok-clause-image
returns-in-Ok-clause-image c =
    let r = c.args.recorder.now in
    let begin = start_of r.program r.input in
    let of : IsProfileOf (with_mark true) begin r.position c.in_ok-profile.profile =
    subst (λ b. IsProfileOf (with_mark b) begin r.position c.in_ok-profile.profile) c.requires.calls c.in_ok-profile.ensures.profile in
    image_made r.program begin r.position c.in_ok-profile.profile (omega (arith, c.requires.position)) of c.in_ok-profile.ensures.narrow c.in-Ok.ensures.some c.in-Ok.image
    (c.in-Ok.ensures.exact ∙ ap (λ (p : Executable). distilled (word_in p) p.entry c.in_ok-profile.profile [] default_options) c.program.ensures)

pub returns-in-Ok-clause-made : goal.returns-in-Ok-clause-made
returns-in-Ok-clause-made c = record {
  valid = c.in-Ok.ensures.image;
  fits = subst (λ (p : Executable). Fits (word_in p) c.in-Ok.image) c.program.ensures c.in-Ok.ensures.fits;
  limit = subst (λ (d : Distilled). d.limit ≤ 4_096) (sym c.in-Ok.ensures.exact) (distilled_small (word_in c.program.result.now) c.program.result.now.entry c.in_ok-profile.profile);
}

pub returns-in-Err-Empty-clause-image : goal.returns-in-Err-Empty-clause-image
returns-in-Err-Empty-clause-image c =
    let r = c.args.recorder.now in
    let begin = start_of r.program r.input in
    empty_made r.program begin r.position c.in_ok-profile.profile
    (subst (λ b. IsProfileOf (with_mark b) begin r.position c.in_ok-profile.profile) c.requires.calls c.in_ok-profile.ensures.profile) (c.in-Err-Empty.ensures.empty (ap Err c.in-Err-Empty.field-0-is))
