-- What is left of the steps, with what the rows so far were executed, is all steps.
use Rattle.std.proofs.Common.{◌≡◌, ◌+◌, take}
use Rattle.std.specs.List.{sum_by}
use Rattle.profile_data.specs.Profile.{executed_of}
use Rattle.profile_data.proofs.reading.add_up.Given as goal

abbrev pub invariant-loop-row : goal.invariant-loop-row
invariant-loop-row l = l.left + sum_by executed_of (take l.row-index l.rows) ≡ l.steps
