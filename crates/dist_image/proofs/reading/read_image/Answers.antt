-- What is read is what the format says, and the format's two laws say the rest.
use Rattle.std.proofs.Common.{arith}
use Rattle.dist_image.specs.Reading.{image_from}
use Rattle.dist_image.proofs.Whole.{is_found, is_only, is_read, is_refused}
use Rattle.dist_image.proofs.reading.read_image.Goals as goal

pub returns-clause-found : goal.returns-clause-found
returns-clause-found c = is_found c.args.bytes.now c.image_in.result (λ i. omega (arith, c.type_inv.bytes i)) c.image_in.ensures

pub returns-clause-only : goal.returns-clause-only
returns-clause-only c = is_only c.args.bytes.now c.image_in.result c.image_in.ensures

pub returns-clause-refused : goal.returns-clause-refused
returns-clause-refused c = is_refused c.image_in.result (image_from c.args.bytes.now) c.image_in.ensures

pub returns-clause-exact : goal.returns-clause-exact
returns-clause-exact c = is_read c.image_in.result (image_from c.args.bytes.now) c.image_in.ensures
