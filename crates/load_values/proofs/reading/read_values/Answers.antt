-- What is read is what the format says, and the format's two laws say the rest.
use Rattle.std.proofs.Common.{arith}
use Rattle.load_values.specs.Reading.{values_from}
use Rattle.load_values.proofs.Whole.{is_found, is_only, is_read, is_refused}
use Rattle.load_values.proofs.reading.read_values.Goals as goal

pub returns-clause-found : goal.returns-clause-found
returns-clause-found c = is_found (λ v. v.items) c.args.bytes.now c.values_in.result (λ i. omega (arith, c.type_inv.bytes i)) c.values_in.ensures

pub returns-clause-only : goal.returns-clause-only
returns-clause-only c = is_only (λ v. v.items) c.args.bytes.now c.values_in.result c.values_in.ensures

pub returns-clause-exact : goal.returns-clause-exact
returns-clause-exact c = is_read (λ v. v.items) c.values_in.result (values_from c.args.bytes.now) c.values_in.ensures

pub returns-clause-refused : goal.returns-clause-refused
returns-clause-refused c = is_refused (λ v. v.items) c.values_in.result (values_from c.args.bytes.now) c.values_in.ensures
