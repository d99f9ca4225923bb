-- The notes so far are written.
use Rattle.std.proofs.Common.{◌≡◌, ◌++◌, take}
use Rattle.dist_image.specs.Bytes.{note_words, table_bytes}
use Rattle.dist_image.proofs.writing.put_notes.Given as goal

abbrev pub invariant-loop-note : goal.invariant-loop-note
invariant-loop-note l = l.out.items ≡ l.fn.out.items ++ table_bytes note_words (take l.note-index l.notes)
