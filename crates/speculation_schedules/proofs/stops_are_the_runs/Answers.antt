-- Where it stops.
use Rattle.speculation_schedules.proofs.Stops.{stops}
use Rattle.speculation_schedules.proofs.stops_are_the_runs.Goals as goal

pub returns : goal.returns
returns c w known runs event far k stop = stops w known runs event far k stop
