-- By its key.
use Rattle.std.proofs.Common.{IsTrue, ◌↔◌, sym, subst}
use Rattle.dist_image.specs.Image.{Span}
use Rattle.fitting.specs.Fits.{IsListed}
use Rattle.certify.proofs.Keys.{span_listed}
use Rattle.certify.proofs.assumed.lists_span.Goals as goal

pub returns : goal.returns
returns c = let ps = c.args.image.now.assumptions in subst (λ b. IsTrue b ↔ IsListed ps Span) (sym c.lists.ensures) (span_listed ps c.requires.assumptions)
