-- By the key of the store.
use Rattle.std.proofs.Common.{ap, sym, ◌∙◌, ◌+◌, arith}
use Rattle.std.specs.Prelude.{is_some}
use Rattle.dist_image.specs.Image.{keyed}
use Rattle.certify.proofs.Keys.{dead_found}
use Rattle.certify.proofs.assumed.is_dead.Goals as goal

pub returns : goal.returns
returns c =
    let ps = c.args.image.now.assumptions in
    c.lists.ensures ∙ ap (λ n. is_some (keyed (8589934592 + n) ps)) c.from.ensures ∙ sym (dead_found c.args.pc (omega arith) ps c.requires.assumptions)
