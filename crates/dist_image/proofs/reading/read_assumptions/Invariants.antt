-- The assumptions so far, with those that are still read, are all assumptions.
use Rattle.std.proofs.Common.{◌≡◌, ◌≤◌, ◌-◌, map}
use Rattle.dist_image.specs.Image.{premise}
use Rattle.word_format.specs.Reading.{entries}
use Rattle.dist_image.specs.Reading.{next_premise, see_premise, premises_in}
use Rattle.word_format.proofs.Loop.{with_front}
use Rattle.dist_image.proofs.reading.read_assumptions.Given as goal

abbrev pub invariant-loop-number : goal.invariant-loop-number
invariant-loop-number l = record {
  read : with_front (map premise l.assumptions.items) (entries (next_premise l.version) see_premise (l.count - l.number) l.number (l.due, l.targets) l.rest) ≡ premises_in l.version l.count l.bytes;
  few : l.targets ≤ 1_048_576;
}
