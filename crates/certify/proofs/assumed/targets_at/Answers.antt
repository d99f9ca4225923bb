-- By the key.
use Rattle.std.proofs.Common.{ap, sym, ◌∙◌, ◌+◌, arith}
use Rattle.std.specs.Prelude.{option_and_then}
use Rattle.std.specs.Option.{option_map, option_copied}
use Rattle.fitting.specs.Claims.{as_targets}
use Rattle.dist_image.specs.Image.{keyed}
use Rattle.certify.specs.Found.{claim}
use Rattle.certify.proofs.Keys.{targets_found}
use Rattle.certify.proofs.assumed.targets_at.Goals as goal

pub returns-in_err-keyed : goal.returns-in_err-keyed
returns-in_err-keyed c =
    let ps = c.args.image.now.assumptions in
    ap option_copied c.from_residual.ensures
    ∙ ap (option_and_then (λ p. option_map claim (as_targets p))) (c.in_err-keyed.ensures ∙ ap (λ n. keyed (4294967296 + n) ps) c.from.ensures)
    ∙ sym (targets_found c.args.pc (omega arith) ps c.requires.assumptions)

pub returns : goal.returns
returns c =
    let ps = c.args.image.now.assumptions in
    c.targets_of.ensures
    ∙ ap (option_and_then (λ p. option_map claim (as_targets p))) (c.in_ok-keyed.ensures ∙ ap (λ n. keyed (4294967296 + n) ps) c.from.ensures)
    ∙ sym (targets_found c.args.pc (omega arith) ps c.requires.assumptions)
