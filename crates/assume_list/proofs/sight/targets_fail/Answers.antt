-- The targets of a jump are found by their key.
use Rattle.std.proofs.Common.{◌∙◌, ◌+◌, sym, ap}
use Rattle.dist_image.specs.Image.{Targets}
use Rattle.assume_list.specs.Sights.{seen}
use Rattle.assume_list.proofs.Quiet.{targets_by_key}
use Rattle.assume_list.proofs.sight.targets_fail.Goals as goal

pub returns : goal.returns
returns c = λ h k at to e.
    targets_by_key (seen c.args.sight.now c.args.marks.now) at to c.keyed_fails.result h (λ is. c.keyed_fails.ensures k (Targets at to) e (is ∙ ap (λ n. 4294967296 + n) (sym c.from.ensures)))
