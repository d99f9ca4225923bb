-- The targets so far are written.
use Rattle.std.proofs.Common.{◌≡◌, ◌++◌, take, map}
use Rattle.report.specs.Text.{spaced, hex_word}
use Rattle.report.proofs.show.push_targets.Given as goal

abbrev pub invariant-loop-target : goal.invariant-loop-target
invariant-loop-target l = l.out.items ≡ l.fn.out.items ++ spaced (map hex_word (take l.target-index l.targets))
