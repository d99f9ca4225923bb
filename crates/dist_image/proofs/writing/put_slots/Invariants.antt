-- The slots so far are written.
use Rattle.std.proofs.Common.{◌≡◌, ◌++◌, take}
use Rattle.dist_image.specs.Bytes.{slot_words, table_bytes}
use Rattle.dist_image.proofs.writing.put_slots.Given as goal

abbrev pub invariant-loop-slot : goal.invariant-loop-slot
invariant-loop-slot l = l.out.items ≡ l.fn.out.items ++ table_bytes slot_words (take l.slot-index l.slots)
