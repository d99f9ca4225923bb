-- None of those before is Span.
use Rattle.std.proofs.Common.{◌≡◌, drop, map}
use Rattle.dist_image.specs.Image.{premise}
use Rattle.assumption_laws.specs.Looks.{first_from}
use Rattle.assume_list.specs.Passes.{is_span}
use Rattle.assume_list.proofs.check.place_of_span.Given as goal

abbrev pub invariant-loop-k : goal.invariant-loop-k
invariant-loop-k l = first_from is_span l.k (map premise (drop l.k l.xs)) ≡ first_from is_span 0 (map premise l.xs)
