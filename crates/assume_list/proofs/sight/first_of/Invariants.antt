-- None of those before fails.
use Rattle.std.proofs.Common.{◌≡◌, drop, map}
use Rattle.dist_image.specs.Image.{premise}
use Rattle.assumption_laws.specs.Looks.{fails_by, first_from}
use Rattle.assume_list.specs.Sights.{seen}
use Rattle.assume_list.proofs.sight.first_of.Given as goal

abbrev pub invariant-loop-k : goal.invariant-loop-k
invariant-loop-k l = first_from (fails_by (seen l.sight l.marks)) l.k (map premise (drop l.k l.xs)) ≡ first_from (fails_by (seen l.sight l.marks)) 0 (map premise l.xs)
