-- The notes so far, with those that are still read, are all notes.
use Rattle.std.proofs.Common.{◌≡◌, ℕ, ◌+◌, ◌-◌}
use Rattle.dist_image.specs.declared.image.Note.{Note}
use Rattle.word_format.specs.Reading.{entries}
use Rattle.dist_image.specs.Reading.{next_note, notes_in}
use Rattle.word_format.proofs.Loop.{with_front}
use Rattle.dist_image.proofs.reading.read_notes.Given as goal

abbrev pub invariant-loop-number : goal.invariant-loop-number
invariant-loop-number l = with_front l.notes.items (entries {S = ℕ} (next_note l.slots) (λ _ (n : Note). n.pc + 1) (l.count - l.number) l.number l.due l.rest) ≡ notes_in l.slots l.count l.bytes
