-- Each file is short enough.
use Rattle.trial.proofs.Accepted.{all_accepted}
use Rattle.trial.proofs.files_are_accepted.Goals as goal

pub returns : goal.returns
returns c = all_accepted
