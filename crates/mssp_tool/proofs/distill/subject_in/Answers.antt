-- The ways out behind an accepted program: each later file was read from the store as it was told at first.
use Rattle.std.proofs.Common.{◌≡◌, ◌≤◌, ◌∙◌, inl, inr, subst, arith, Err}
use Rattle.command_line.specs.Command.{shown_distill}
use Rattle.profile_data.specs.declared.error.ProfileErr.{ProfileErr}
use Rattle.profile_data.specs.Reading.{profile_from}
use Rattle.answers.specs.declared.answer.Source.TheVariants as source
use Rattle.answers.specs.declared.answer.Refusal.TheVariants as refused
use Rattle.mssp_tool.specs.Files.{HasProfile, profile_limit}
use Rattle.mssp_tool.proofs.Ready.{not_accepted_within, no_named_values_within, are_named_values}
use Rattle.mssp_tool.proofs.distill.subject_in.Goals as goal

pub returns-in-Err-clause-answer : goal.returns-in-Err-clause-answer
returns-in-Err-clause-answer g c =
    let d = shown_distill c.args.distill.now in
    let has = c.in_ok-program.ensures.answer.1 in
    let first = c.program_in.ensures in
    inr (inl (has.0, has.1, not_accepted_within (g.S.Store.told c.args.store.now) (g.S.Store.told c.program_in.new.store) (g.S.Store.faults c.args.store.now) (g.S.Store.faults c.program_in.new.store) (g.S.Store.faults c.profile_in.new.store) (g.S.Store.failed c.profile_in.new.store) d.profile profile_limit source.Profile (λ bytes (e : ProfileErr). profile_from bytes ≡ Err e) refused.Profile c.in-Err.answer first.files first.faults c.in-Err.ensures.answer))

pub returns-in-Err-named_values_in-clause-answer : goal.returns-in-Err-named_values_in-clause-answer
returns-in-Err-named_values_in-clause-answer g c =
    let d = shown_distill c.args.distill.now in
    let has = c.in_ok-program.ensures.answer.1 in
    let first = c.program_in.ensures in
    let second = c.profile_in.ensures in
    let low : g.S.Store.faults c.args.store.now ≤ g.S.Store.faults c.profile_in.new.store = (let l = first.faults in let m = second.faults in omega (arith, l, m)) in
    inr (inr (inl (
      has.0,
      c.in-Ok.profile,
      has.1,
      subst (λ t. HasProfile t d.profile c.in-Ok.profile) first.files c.in-Ok.ensures.answer,
      no_named_values_within (g.S.Store.told c.args.store.now) (g.S.Store.told c.profile_in.new.store) (g.S.Store.faults c.args.store.now) (g.S.Store.faults c.profile_in.new.store) (g.S.Store.faults c.named_values_in.new.store) (g.S.Store.failed c.named_values_in.new.store) d.values c.in-Err-named_values_in.answer (second.files ∙ first.files) low c.in-Err-named_values_in.ensures.answer,
    )))

pub returns-in-Ok-named_values_in-clause-answer : goal.returns-in-Ok-named_values_in-clause-answer
returns-in-Ok-named_values_in-clause-answer g c =
    let d = shown_distill c.args.distill.now in
    let first = c.program_in.ensures in
    let second = c.profile_in.ensures in (
      c.in_ok-program.ensures.answer.1,
      subst (λ t. HasProfile t d.profile c.in-Ok.profile) first.files c.in-Ok.ensures.answer,
      are_named_values (g.S.Store.told c.args.store.now) (g.S.Store.told c.profile_in.new.store) d.values c.in-Ok-named_values_in.values.items (second.files ∙ first.files) c.in-Ok-named_values_in.ensures.answer,
    )
