-- Each that is listed is one.
use Rattle.std.proofs.Common.{subst, sym}
use Rattle.dist_image.specs.Image.{premise, IsPremise}
use Rattle.assume_list.proofs.Claimed.{premise_at}
use Rattle.assume_list.proofs.sight.first_of.Goals as goal

pub fails-requires : goal.fails-requires
fails-requires c = subst (λ x. IsPremise (premise x)) (sym c.index-xs-k.is) (premise_at c.args.xs.now c.requires.each c.loop-k.k c.index-xs-k.result c.loop-k-test.true)
