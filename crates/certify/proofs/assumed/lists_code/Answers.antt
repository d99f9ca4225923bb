-- By its key.
use Rattle.std.proofs.Common.{IsTrue, ◌↔◌, sym, subst}
use Rattle.dist_image.specs.Image.{Code}
use Rattle.fitting.specs.Fits.{IsListed}
use Rattle.certify.proofs.Keys.{code_listed}
use Rattle.certify.proofs.assumed.lists_code.Goals as goal

pub returns : goal.returns
returns c = let ps = c.args.image.now.assumptions in subst (λ b. IsTrue b ↔ IsListed ps Code) (sym c.lists.ensures) (code_listed ps c.requires.assumptions)
