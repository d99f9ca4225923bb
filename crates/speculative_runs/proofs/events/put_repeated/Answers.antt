-- The events so far, and those that are left, at each turn and at the ways out.
use Rattle.std.proofs.Common.{rules, ◌+◌, ◌-◌, ◌<◌, ◌^◌, [], ◌∷◌, length, replicate, sym, subst}
use Rattle.std.proofs.lemmas.List.{length-replicate}
use Rattle.engine.specs.Whole.{model_of}
use Rattle.speculative_runs.proofs.Along.{onward, halted, fits, replicate-next}
use Rattle.speculative_runs.proofs.events.put_repeated.Goals as goal

pub put_event-requires : goal.put_event-requires
put_event-requires g c =
    let count = c.args.count in
    let i = c.loop-turn.turn in
    let l : (model_of g.M.Memory.at c.args.pair.now.engine).counts.events + length (replicate count c.args.e) < 2 ^ 64 =
    subst (λ n. (model_of g.M.Memory.at c.args.pair.now.engine).counts.events + n < 2 ^ 64) (sym (length-replicate count c.args.e)) c.requires in
    fits (c.args.e ∷ []) (replicate (count - (i + 1)) c.args.e) (2 ^ 64) (replicate-next count i c.args.e c.loop-turn-test.true) c.loop-turn.invariant l

pub returns-in_err-put_event-clause-put : goal.returns-in_err-put_event-clause-put
returns-in_err-put_event-clause-put g c =
    let count = c.args.count in
    let i = c.loop-turn.turn in
    halted (c.args.e ∷ []) (replicate (count - (i + 1)) c.args.e) (replicate-next count i c.args.e c.loop-turn-test.true) c.loop-turn.invariant c.put_event.ensures.put
    c.in_err-put_event.was (search rules)

pub loop-turn-preserved : goal.loop-turn-preserved
loop-turn-preserved g c =
    let count = c.args.count in
    let i = c.loop-turn.turn in
    onward (c.args.e ∷ []) (replicate (count - (i + 1)) c.args.e) (replicate-next count i c.args.e c.loop-turn-test.true) c.loop-turn.invariant c.put_event.ensures.put
    c.in_ok-put_event.was c.put_event.ensures.world c.in_ok-put_event.ensures.model
