-- None of those before is.
use Rattle.std.proofs.Common.{◌≡◌, drop, map}
use Rattle.std.specs.List.{list_any}
use Rattle.dist_image.specs.Image.{premise}
use Rattle.assume_list.specs.Sights.{is_same}
use Rattle.assume_list.proofs.sight.lists_same.Given as goal

abbrev pub invariant-loop-x : goal.invariant-loop-x
invariant-loop-x l = list_any is_same (map premise (drop l.x-index l.xs)) ≡ list_any is_same (map premise l.xs)
