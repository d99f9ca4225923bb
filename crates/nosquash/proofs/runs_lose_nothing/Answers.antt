-- Each event is safe.
use Rattle.nosquash.proofs.Clean.{clean}
use Rattle.nosquash.proofs.runs_lose_nothing.Goals as goal

pub returns : goal.returns
returns c = clean
