-- The rows so far.
use Rattle.std.proofs.Common.{◌≡◌, take}
use Rattle.indexmap.specs.IndexMap.{values}
use Rattle.profile_data.specs.Keyed.{IsKeyed}
use Rattle.profiler.proofs.rows.close.Given as goal

abbrev pub invariant-loop-i : goal.invariant-loop-i
invariant-loop-i l = record { rows : values l.rows ≡ take l.i (values l.from); keyed : IsKeyed l.rows }
