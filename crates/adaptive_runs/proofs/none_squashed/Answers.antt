-- Tasks and master track the run beside the image of each event.
use Rattle.adaptive_runs.proofs.Worlds.{safe}
use Rattle.adaptive_runs.proofs.none_squashed.Goals as goal

pub returns : goal.returns
returns c p limit is_plan k n fits meets room = safe p limit is_plan k n fits meets room
