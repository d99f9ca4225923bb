-- None of those before is the mark.
use Rattle.std.proofs.Common.{◌≡◌, ◌+◌, drop}
use Rattle.fitting.specs.Claims.{among}
use Rattle.assume_list.proofs.sight.is_marked.Given as goal

abbrev pub invariant-loop-m : goal.invariant-loop-m
invariant-loop-m l = among (drop l.m-index l.marks) (l.at + 1) ≡ among l.marks (l.at + 1)
