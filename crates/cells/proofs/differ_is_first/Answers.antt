-- The first cell that differs is told.
use Rattle.std.proofs.Common.{ap, subst, is_some}
use Rattle.cells.specs.Differ.{IsFirstDiffer}
use Rattle.cells.proofs.Differs.{differ_first}
use Rattle.cells.proofs.differ_is_first.Goals as goal

pub returns-clause-first : goal.returns-clause-first
returns-clause-first c = differ_first

pub returns-clause-cell : goal.returns-clause-cell
returns-clause-cell c recorded found d cells told =
    cells d.cell (ap is_some (subst (IsFirstDiffer recorded found) told (differ_first recorded found)).was_recorded)
