-- By the key of the store.
use Rattle.std.proofs.Common.{ap, ◌∙◌, ◌+◌, ◌*◌, arith}
use Rattle.std.specs.Prelude.{is_some}
use Rattle.dist_image.specs.Image.{keyed}
use Rattle.assume_list.proofs.Claimed.{claimed_by_key}
use Rattle.assume_list.proofs.sight.claims_dead.Goals as goal

pub returns : goal.returns
returns c =
    let ps = c.args.image.now.assumptions in
    c.lists.ensures ∙ ap (λ n. is_some (keyed (2 * 4294967296 + n) ps)) c.from.ensures ∙ claimed_by_key c.args.pc (omega arith) ps c.requires.assumptions
