-- It stops where it is a call that no task does, or the run is over afterwards.
use Rattle.std.proofs.Common.{ap, ◌∙◌}
use Rattle.rv_semantics.specs.Calls.{step}
use Rattle.seq_machine.specs.States.{state_of}
use Rattle.assume_list.proofs.Looked.{not_over, stop_seen}
use Rattle.assume_list.proofs.passing.step_on.Goals as goal

pub returns-clause-state : goal.returns-clause-state
returns-clause-state g c = c.in_ok-one.ensures.ok ∙ ap step c.is_at_call-calls.ensures.state

pub returns-clause-stops : goal.returns-clause-stops
returns-clause-stops g c =
    stop_seen c.args.image.now (state_of g.M.Memory.at c.args.machine.now) (state_of g.M.Memory.at c.one.new.self) c.is_at_call-calls.result c.stops.result (not_over c.args.machine.now.end c.requires.running)
    (c.in_ok-one.ensures.ok ∙ ap step c.is_at_call-calls.ensures.state) c.is_at_call-calls.ensures.calls c.stops.ensures
