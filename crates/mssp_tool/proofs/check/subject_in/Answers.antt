-- The ways out behind an accepted program: each later file was read from the store as it was told at first.
use Rattle.std.proofs.Common.{◌≡◌, ◌≤◌, inl, inr, Err, subst, ◌∙◌, arith}
use Rattle.command_line.specs.Command.{shown_walk}
use Rattle.dist_image.specs.Reading.{image_from}
use Rattle.dist_image.specs.declared.error.ImageErr.{ImageErr}
use Rattle.answers.specs.declared.answer.Source.TheVariants as source
use Rattle.answers.specs.declared.answer.Refusal.TheVariants as refused
use Rattle.mssp_tool.specs.Files.{HasImage, image_limit}
use Rattle.mssp_tool.proofs.Ready.{not_accepted_within, no_input_within, is_input}
use Rattle.mssp_tool.proofs.check.subject_in.Goals as goal

pub returns-in-Err-clause-answer : goal.returns-in-Err-clause-answer
returns-in-Err-clause-answer g c =
    let w = shown_walk c.args.walk.now in
    let has = c.in_ok-program.ensures.answer.1 in
    let first = c.program_in.ensures in
    inr (inl (has.0, has.1, not_accepted_within (g.S.Store.told c.args.store.now) (g.S.Store.told c.program_in.new.store) (g.S.Store.faults c.args.store.now) (g.S.Store.faults c.program_in.new.store) (g.S.Store.faults c.image_in.new.store) (g.S.Store.failed c.image_in.new.store) w.other image_limit source.Image (λ bytes (e : ImageErr). image_from bytes ≡ Err e) refused.Image c.in-Err.answer first.files first.faults c.in-Err.ensures.answer))

pub returns-in-Err-input_in-clause-answer : goal.returns-in-Err-input_in-clause-answer
returns-in-Err-input_in-clause-answer g c =
    let w = shown_walk c.args.walk.now in
    let has = c.in_ok-program.ensures.answer.1 in
    let first = c.program_in.ensures in
    let second = c.image_in.ensures in
    let low : g.S.Store.faults c.args.store.now ≤ g.S.Store.faults c.image_in.new.store = (let l = first.faults in let m = second.faults in omega (arith, l, m)) in
    inr (inr (inl (
      has.0,
      c.in-Ok.image,
      has.1,
      subst (λ d. HasImage d w.other c.in-Ok.image) first.files c.in-Ok.ensures.answer.1,
      no_input_within (g.S.Store.told c.args.store.now) (g.S.Store.told c.image_in.new.store) (g.S.Store.faults c.args.store.now) (g.S.Store.faults c.image_in.new.store) (g.S.Store.faults c.input_in.new.store) (g.S.Store.failed c.input_in.new.store) w.input c.in-Err-input_in.answer (second.files ∙ first.files) low c.in-Err-input_in.ensures.answer,
    )))

pub returns-in-Ok-input_in-clause-answer : goal.returns-in-Ok-input_in-clause-answer
returns-in-Ok-input_in-clause-answer g c =
    let w = shown_walk c.args.walk.now in
    let has = c.in_ok-program.ensures.answer.1 in
    let first = c.program_in.ensures in
    let second = c.image_in.ensures in
    let i = c.in-Ok-input_in.input.items in (
      c.in_ok-program.ensures.answer.0,
      c.in-Ok.ensures.answer.0,
      (
        has.0,
        record {
          program = has.1;
          has_image = subst (λ d. HasImage d w.other c.in-Ok.image) first.files c.in-Ok.ensures.answer.1;
          input = is_input (g.S.Store.told c.args.store.now) (g.S.Store.told c.image_in.new.store) w.input i (second.files ∙ first.files) c.in-Ok-input_in.ensures.answer;
        },
        has.2,
      ),
    )
