-- A cut is found by its key.
use Rattle.std.proofs.Common.{◌∙◌, sym}
use Rattle.dist_image.specs.Image.{Cut}
use Rattle.assume_list.specs.Sights.{seen}
use Rattle.assume_list.proofs.Quiet.{cut_by_key}
use Rattle.assume_list.proofs.sight.cut_fails.Goals as goal

pub returns : goal.returns
returns c = λ h k at taken e. cut_by_key (seen c.args.sight.now c.args.marks.now) at taken c.keyed_fails.result h (λ is. c.keyed_fails.ensures k (Cut at taken) e (is ∙ sym c.from.ensures))
