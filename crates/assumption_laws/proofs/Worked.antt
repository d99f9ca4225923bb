-- The rows, by running the definitions.
use Rattle.std.proofs.Common.{refl}
use Rattle.rv_semantics.specs.Calls.{call}
use Rattle.rv_semantics.specs.Machine.{moved}
use Rattle.cells.specs.Seen.{given_values}
use Rattle.profile_laws.specs.Tally.{places, kept}
use Rattle.assumption_laws.specs.Looks.{comes}
use Rattle.assumption_laws.specs.Waits.{waiting}
use Rattle.assumption_laws.specs.Rows.{LookRows, LateRows}

pub looks : LookRows
unfolding call moved given_values places kept
looks = record {
  cut = refl;
  not_cut = refl;
  missing = refl;
  listed = refl;
  loaded = refl;
  covered = refl;
  replaced = refl;
  changed = refl;
  same = refl;
  other = refl;
  left = refl;
}

pub late : LateRows
unfolding call moved given_values comes waiting
late = record {
  in_time = refl;
  late = refl;
  stopped_here = refl;
  stopped = refl;
  stopped_late = refl;
  due = refl;
  due_in_time = refl;
}
