-- Nothing is known at first, and all is known once no line is left.
use Rattle.std.proofs.Common.{arith, rules}
use Rattle.event_list.proofs.SoFar.{begins, ends}
use Rattle.event_list.proofs.reading.list_in.Goals as goal

pub loop-rest-init : goal.loop-rest-init
loop-rest-init c = record {
  so_far = rw c.new-events.ensures.items (begins c.args.bytes.now);
  room = omega arith;
}

pub returns-clause-exact : goal.returns-clause-exact
returns-clause-exact c = ends _ _ _ _ _ c.loop-rest.invariant.so_far (search rules)
