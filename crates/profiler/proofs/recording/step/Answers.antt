-- What was looked at is what the step does.
use Rattle.std.proofs.Common.{◌<◌, ◌^◌, ◌∙◌, ap, rules}
use Rattle.rv_semantics.specs.Calls.{step as next_state}
use Rattle.profiler.proofs.recording.step.Goals as goal

pub returns-clause-state : goal.returns-clause-state
returns-clause-state g c = c.in_ok-one.ensures.ok ∙ ap next_state c.look-visit.ensures.state

pub returns-clause-pc : goal.returns-clause-pc
returns-clause-pc g c =
    let m = c.one.new.self in
    let small : m.arch.pc < 2 ^ 32 = search rules in
    (m.aligned, small)
