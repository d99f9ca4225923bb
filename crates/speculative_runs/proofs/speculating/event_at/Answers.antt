-- The event at a place of a round is that of each turn which comes to that place.
use Rattle.std.proofs.Common.{ap, sym, ◌∙◌}
use Rattle.speculative_runs.specs.Speculated.{events_of}
use Rattle.speculative_runs.proofs.Turns.{at_turn}
use Rattle.speculative_runs.proofs.speculating.event_at.Goals as goal

pub returns-in-Rounds-clause-event : goal.returns-in-Rounds-clause-event
returns-in-Rounds-clause-event c k at =
    at_turn c.args.slaves c.args.place c.turn-event.result.0 c.turn-event.ensures.event k at ∙ ap (λ s. events_of s c.args.slaves k) (sym c.in-Rounds.is)
