-- The rows so far, with those that are still read, are all rows.
use Rattle.std.proofs.Common.{◌≡◌, ◌≤◌, ◌-◌, [], ◌∷◌, ◌++◌}
use Rattle.indexmap.specs.IndexMap.{values}
use Rattle.profile_data.specs.Profile.{target_count}
use Rattle.profile_data.specs.Keyed.{IsKeyed}
use Rattle.word_format.specs.Reading.{entries}
use Rattle.profile_data.specs.Reading.{next_row, rows_in}
use Rattle.word_format.proofs.Loop.{with_front}
use Rattle.profile_data.proofs.reading.read_rows.Given as goal

abbrev pub invariant-loop-number : goal.invariant-loop-number
invariant-loop-number l = record {
  read : with_front (values l.rows) (entries next_row (λ before t. before ++ t ∷ []) (l.count - l.number) l.number (values l.rows) l.rest) ≡ rows_in l.count l.bytes;
  keyed : IsKeyed l.rows;
  targets : l.targets ≡ target_count (values l.rows);
  few : l.targets ≤ 1_048_576;
}
