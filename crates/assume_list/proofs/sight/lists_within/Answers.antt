-- By its key.
use Rattle.std.proofs.Common.{◌∙◌}
use Rattle.assume_list.specs.Sights.{is_within}
use Rattle.assume_list.proofs.Claimed.{key_passes, tells_within}
use Rattle.assume_list.proofs.sight.lists_within.Goals as goal

pub returns : goal.returns
returns c = c.lists.ensures ∙ key_passes is_within 17179869184 tells_within c.args.image.now.assumptions c.requires.assumptions
