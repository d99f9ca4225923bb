-- The anchors so far, with those that are still read, are all anchors.
use Rattle.std.proofs.Common.{◌≡◌, ℕ, ◌+◌, ◌-◌}
use Rattle.dist_image.specs.declared.image.Anchor.{Anchor}
use Rattle.word_format.specs.Reading.{entries}
use Rattle.dist_image.specs.Reading.{next_anchor, anchors_in}
use Rattle.word_format.proofs.Loop.{with_front}
use Rattle.dist_image.proofs.reading.read_anchors.Given as goal

abbrev pub invariant-loop-number : goal.invariant-loop-number
invariant-loop-number l = with_front l.anchors.items (entries {S = ℕ} (next_anchor l.slots) (λ _ (a : Anchor). a.pc + 1) (l.count - l.number) l.number l.due l.rest) ≡ anchors_in l.slots l.count l.bytes
