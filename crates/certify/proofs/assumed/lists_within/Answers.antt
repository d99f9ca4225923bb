-- By its key.
use Rattle.std.proofs.Common.{IsTrue, ◌↔◌, sym, subst}
use Rattle.dist_image.specs.Image.{Within}
use Rattle.fitting.specs.Fits.{IsListed}
use Rattle.certify.proofs.Keys.{within_listed}
use Rattle.certify.proofs.assumed.lists_within.Goals as goal

pub returns : goal.returns
returns c = let ps = c.args.image.now.assumptions in subst (λ b. IsTrue b ↔ IsListed ps Within) (sym c.lists.ensures) (within_listed ps c.requires.assumptions)
