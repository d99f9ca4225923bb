-- The slots so far, with those that are still read, are all slots.
use Rattle.std.proofs.Common.{◌≡◌, ℕ, ◌-◌}
use Rattle.word_format.specs.Reading.{entries}
use Rattle.dist_image.specs.Reading.{next_slot, slots_in}
use Rattle.word_format.proofs.Loop.{with_front}
use Rattle.dist_image.proofs.reading.read_slots.Given as goal

abbrev pub invariant-loop-number : goal.invariant-loop-number
invariant-loop-number l = with_front l.slots.items (entries {S = ℕ} (λ i _ rest. next_slot l.anchors i rest) (λ seen _. seen) (l.count - l.number) l.number 0 l.rest) ≡ slots_in l.anchors l.count l.bytes
