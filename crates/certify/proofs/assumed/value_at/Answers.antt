-- By the key.
use Rattle.std.proofs.Common.{ap, sym, ◌∙◌, ◌+◌, arith}
use Rattle.std.specs.Prelude.{option_and_then}
use Rattle.std.specs.Option.{option_map}
use Rattle.fitting.specs.Claims.{as_same}
use Rattle.dist_image.specs.Image.{keyed}
use Rattle.certify.specs.Found.{claim}
use Rattle.certify.proofs.Keys.{same_found}
use Rattle.certify.proofs.assumed.value_at.Goals as goal

pub returns-in_err-keyed : goal.returns-in_err-keyed
returns-in_err-keyed c =
    let ps = c.args.image.now.assumptions in
    c.from_residual.ensures
    ∙ ap (option_and_then (λ p. option_map claim (as_same p))) (c.in_err-keyed.ensures ∙ ap (λ n. keyed (25769803776 + n) ps) c.from.ensures)
    ∙ sym (same_found c.args.pc (omega arith) ps c.requires.assumptions)

pub returns : goal.returns
returns c =
    let ps = c.args.image.now.assumptions in
    c.value_of.ensures
    ∙ ap (option_and_then (λ p. option_map claim (as_same p))) (c.in_ok-keyed.ensures ∙ ap (λ n. keyed (25769803776 + n) ps) c.from.ensures)
    ∙ sym (same_found c.args.pc (omega arith) ps c.requires.assumptions)
