-- Profiles by running the definitions.
use Rattle.std.proofs.Common.{refl}
use Rattle.rv_semantics.specs.Calls.{call, read, write}
use Rattle.rv_semantics.specs.Machine.{moved}
use Rattle.cells.specs.Seen.{given_values}
use Rattle.profile_laws.specs.Tally.{places, kept}
use Rattle.profile_laws.specs.Rows.{RewritingRow, NeverTrueRow, ShowingRows, AsideRow}

pub rewriting_row : RewritingRow
unfolding call read moved given_values places kept
rewriting_row = record { whole = refl }

pub never_true_row : NeverTrueRow
unfolding call read moved given_values places kept
never_true_row = record { whole = refl }

pub showing_rows : ShowingRows
unfolding call write moved given_values places kept
showing_rows = record { unmarked = refl; marked = refl }

pub aside_row : AsideRow
unfolding call read moved given_values places kept
aside_row = record { branch = refl; jump = refl }
