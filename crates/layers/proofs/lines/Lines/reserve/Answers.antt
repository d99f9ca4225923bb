-- The lines stay.
use Rattle.std.proofs.Common.{ap}
use Rattle.std.specs.Prelude.{nat_eq, nat_lt, cond, None, ◌^◌}
use Rattle.std.specs.Map.{lookup}
use Rattle.layers.proofs.Changes.{same}
use Rattle.layers.proofs.lines.Lines.reserve.Goals as goal

pub returns-clause-same : goal.returns-clause-same
returns-clause-same c = same c.args.self.now _ (λ q. ap (λ es. cond (nat_lt q (2 ^ 26)) (lookup (nat_eq q) es) None) c.reserve.ensures.entries)
