-- What is read is what the format says, and the format's two laws say the rest.
use Rattle.std.proofs.Common.{◌∙◌, refl, arith}
use Rattle.std.proofs.lemmas.Result.{err_from_is_err_and}
use Rattle.profile_data.specs.Keyed.{profiled}
use Rattle.profile_data.proofs.Whole.{is_found, is_only, is_memory}
use Rattle.profile_data.proofs.reading.read_profile.Goals as goal

pub returns-in_err-steps-clause-only : goal.returns-in_err-steps-clause-only
returns-in_err-steps-clause-only c =
    let p = err_from_is_err_and c.from_residual.result c.from_residual.ensures.1 in
    rw (p.1, p.2) (is_memory c.args.bytes.now c.in_err-steps.field-0.0 c.in_err-steps.ensures.gives)

pub new-requires-clause-valid : goal.new-requires-clause-valid
new-requires-clause-valid c = (is_found c.args.bytes.now (profiled c.in_ok-steps.steps c.in_ok-steps.ended c.in_ok-steps.rows) _ (λ i. omega (arith, c.type_inv.bytes i)) c.in_ok-steps.ensures.gives refl).0

pub returns-clause-found : goal.returns-clause-found
returns-clause-found c = is_found c.args.bytes.now c.new.result (profiled c.in_ok-steps.steps c.in_ok-steps.ended c.in_ok-steps.rows) (λ i. omega (arith, c.type_inv.bytes i)) c.in_ok-steps.ensures.gives c.new.ensures

pub returns-clause-only : goal.returns-clause-only
returns-clause-only c = λ profile is same. c.new.ensures ∙ is_only c.args.bytes.now (profiled c.in_ok-steps.steps c.in_ok-steps.ended c.in_ok-steps.rows) c.in_ok-steps.ensures.gives profile is same
