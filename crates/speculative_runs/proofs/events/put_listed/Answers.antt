-- The events so far, and those that are left, at each turn and at the ways out.
use Rattle.std.proofs.Common.{rules, ◌+◌, ◌<◌, ◌^◌, length, replicate, get_or, subst, ℕ, drop}
use Rattle.std.proofs.lemmas.List.{length-replicate}
use Rattle.speculation.specs.declared.Event.{Event}
use Rattle.speculation.specs.declared.Event.TheVariants.{Master}
use Rattle.engine.specs.Whole.{model_of}
use Rattle.event_list.specs.Reading.{written_out}
use Rattle.speculative_runs.proofs.Along.{onward, halted, fits, listed-next}
use Rattle.speculative_runs.proofs.events.put_listed.Goals as goal

pub put_repeated-requires : goal.put_repeated-requires
put_repeated-requires g c =
    let list = c.args.list.now in
    let i = c.loop-count.count-index in
    let x : ℕ × Event = get_or list i (0, Master) in
    let l : (model_of g.M.Memory.at c.loop-count.pair.engine).counts.events + length (replicate x.0 x.1) < 2 ^ 64 =
    fits (replicate x.0 x.1) (written_out (drop (i + 1) list)) (2 ^ 64) (listed-next list i (0, Master) c.loop-count-test.true) c.loop-count.invariant c.requires in
    subst (λ n. (model_of g.M.Memory.at c.loop-count.pair.engine).counts.events + n < 2 ^ 64) (length-replicate x.0 x.1) l

pub returns-in_err-put_repeated-clause-put : goal.returns-in_err-put_repeated-clause-put
returns-in_err-put_repeated-clause-put g c =
    let list = c.args.list.now in
    let i = c.loop-count.count-index in
    let x : ℕ × Event = get_or list i (0, Master) in
    halted (replicate x.0 x.1) (written_out (drop (i + 1) list)) (listed-next list i (0, Master) c.loop-count-test.true) c.loop-count.invariant c.put_repeated.ensures.put
    c.in_err-put_repeated.was (search rules)

pub loop-count-preserved : goal.loop-count-preserved
loop-count-preserved g c =
    let list = c.args.list.now in
    let i = c.loop-count.count-index in
    let x : ℕ × Event = get_or list i (0, Master) in
    onward (replicate x.0 x.1) (written_out (drop (i + 1) list)) (listed-next list i (0, Master) c.loop-count-test.true) c.loop-count.invariant c.put_repeated.ensures.put
    c.in_ok-put_repeated.was c.put_repeated.ensures.world c.in_ok-put_repeated.ensures.model
