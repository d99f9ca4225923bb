-- What is read is what the lines say, and two laws tell what they spell.
use Rattle.event_list.proofs.Whole.{is_found, is_only}
use Rattle.event_list.proofs.reading.read_events.Goals as goal

pub returns-clause-found : goal.returns-clause-found
returns-clause-found c = is_found (λ events. events.items) c.args.bytes.now c.list_in.result c.list_in.ensures.exact

pub returns-clause-only : goal.returns-clause-only
returns-clause-only c = is_only (λ events. events.items) c.args.bytes.now c.list_in.result c.list_in.ensures.exact c.list_in.ensures.refused
