-- By computing.
use Rattle.profile_laws.proofs.Worked.{rewriting_row, never_true_row, showing_rows, aside_row}
use Rattle.profile_laws.proofs.rows_are_worked.Goals as goal

pub returns : goal.returns
returns c = record { rewriting = rewriting_row; showing = showing_rows; never_true = never_true_row; aside = aside_row }
