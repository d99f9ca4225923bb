-- By its key.
use Rattle.std.proofs.Common.{◌∙◌}
use Rattle.assume_list.specs.Sights.{is_code}
use Rattle.assume_list.proofs.Claimed.{key_passes, tells_code}
use Rattle.assume_list.proofs.sight.lists_code.Goals as goal

pub returns : goal.returns
returns c = c.lists.ensures ∙ key_passes is_code 12884901888 tells_code c.args.image.now.assumptions c.requires.assumptions
