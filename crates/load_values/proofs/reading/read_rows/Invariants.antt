-- The rows so far, with those that are still read, are all rows.
use Rattle.std.proofs.Common.{◌≡◌, ℕ, ◌+◌, ◌-◌}
use Rattle.word_format.specs.Reading.{entries}
use Rattle.load_values.specs.Reading.{next_row, rows_in}
use Rattle.word_format.proofs.Loop.{with_front}
use Rattle.load_values.proofs.reading.read_rows.Given as goal

abbrev pub invariant-loop-number : goal.invariant-loop-number
invariant-loop-number l = with_front l.rows.items (entries {S = ℕ} next_row (λ _ e. e.0 + 1) (l.count - l.number) l.number l.due l.rest) ≡ rows_in l.count l.bytes
