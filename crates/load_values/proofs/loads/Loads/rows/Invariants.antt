-- The rows so far, with those of the entries that are left, are all rows.
use Rattle.std.proofs.Common.{◌≡◌, ◌++◌, All}
use Rattle.load_values.specs.Values.{IsSmall}
use Rattle.load_values.specs.Sights.{listed}
use Rattle.load_values.proofs.loads.Loads.rows.Given as goal

abbrev pub invariant-loop-pc : goal.invariant-loop-pc
invariant-loop-pc l = record {
  rows : l.rows.items ++ listed l.pc-iterator ≡ listed l.self.found.entries;
  small : All IsSmall l.rows.items;
}
