-- What was looked at stays, and the machine takes its step.
use Rattle.std.proofs.Common.{◌∙◌, ap}
use Rattle.rv_semantics.specs.Calls.{step as next_state}
use Rattle.load_values.proofs.Counting.{on_any}
use Rattle.load_values.proofs.finding.step.Goals as goal

pub returns-clause-state : goal.returns-clause-state
returns-clause-state g c = on_any c.add.result (c.in_ok-one.ensures.ok ∙ ap next_state c.look-sight.ensures.state)
