-- The turns of the run, and its ways out.
use Rattle.std.proofs.Common.{◌≡◌, ℕ, ◌≤◌, ◌∙◌, ap, sym, subst, arith, inl, inr, not, true, ◌⊎◌, length, drop, List}
use Rattle.outside.specs.Answers.{Gains}
use Rattle.cells.specs.Run.{State, is_over}
use Rattle.seq_machine.specs.States.{state_of}
use Rattle.speculative_runs.specs.Driven.{state_after, Stops, stands}
use Rattle.speculative_runs.proofs.Runs.{after_all, has_ended, one_more}
use Rattle.speculative_runs.proofs.Drives.{stood, no_more, room_to_put, put_too, stopped_there}
use Rattle.speculative_runs.proofs.driving.drive.Goals as goal
use Rattle.speculative_runs.proofs.driving.drive.Goals.{then-loop-alloc-test+else-machine-budget, else-loop-alloc-test}

pub returns-in-Err : goal.returns-in-Err
returns-in-Err g c =
    let i = c.loop-alloc.invariant in
    no_more (state_of g.M.Memory.at c.args.machine.now) (state_of g.M.Memory.at c.loop-alloc.machine) c.loop-alloc.machine.position c.args.budget i.state i.within (g.O.Sink.told c.args.out.now) (g.O.Sink.told c.loop-alloc.out) i.told

pub put_from-requires : goal.put_from-requires
put_from-requires g c =
    let i = c.loop-alloc.invariant in
    let room = room_to_put (state_of g.M.Memory.at c.args.machine.now) (state_of g.M.Memory.at c.loop-alloc.machine) c.loop-alloc.machine.position c.args.budget i.state i.within (g.O.Sink.told c.args.out.now) (g.O.Sink.told c.loop-alloc.out) i.told
    (state_of g.M.Memory.at c.one.new.self) c.one.new.self.position c.loop-alloc.put c.in-Ok.ensures.ok c.in-Ok.ensures.position c.if-machine-budget.true i.put in
    let same = c.deref.ensures.value in
    subst (λ bs. c.loop-alloc.put ≤ length bs) (sym same) room

pub returns-in-Err-put_from : goal.returns-in-Err-put_from
returns-in-Err-put_from g c =
    let i = c.loop-alloc.invariant in
    let P : List ℕ → Type 0 = (λ bs. Stops (g.O.Sink.told c.loop-alloc.out) (g.O.Sink.told c.put_from.new.out) (g.O.Sink.faults c.loop-alloc.out) (g.O.Sink.faults c.put_from.new.out) (drop c.loop-alloc.put bs) c.in-Err-put_from.answer) in
    stopped_there (state_of g.M.Memory.at c.args.machine.now) (state_of g.M.Memory.at c.loop-alloc.machine) c.loop-alloc.machine.position c.args.budget i.state i.within (g.O.Sink.told c.args.out.now) (g.O.Sink.told c.loop-alloc.out) i.told
    (state_of g.M.Memory.at c.one.new.self) c.one.new.self.position c.loop-alloc.put c.in-Ok.ensures.ok c.in-Ok.ensures.position c.if-machine-budget.true i.put
    (g.O.Sink.told c.put_from.new.out) (g.O.Sink.faults c.args.out.now) (g.O.Sink.faults c.loop-alloc.out) (g.O.Sink.faults c.put_from.new.out) c.in-Err-put_from.answer i.faults
    (subst P c.deref.ensures.value c.in-Err-put_from.ensures.err)

pub loop-alloc-preserved : goal.loop-alloc-preserved
loop-alloc-preserved g c =
    let i = c.loop-alloc.invariant in
    let s = state_of g.M.Memory.at c.args.machine.now in
    let t = state_of g.M.Memory.at c.loop-alloc.machine in
    let u = state_of g.M.Memory.at c.one.new.self in
    let put : Gains (g.O.Sink.told c.loop-alloc.out) (g.O.Sink.told c.put_from.new.out) (drop c.loop-alloc.put u.env.output) =
    subst (λ bs. Gains (g.O.Sink.told c.loop-alloc.out) (g.O.Sink.told c.put_from.new.out) (drop c.loop-alloc.put bs)) c.deref.ensures.value c.in-Ok-put_from.ensures.ok in
    record {
      state = one_more s t u c.loop-alloc.machine.position c.one.new.self.position i.state c.in-Ok.ensures.ok c.in-Ok.ensures.position;
      within = (let p = c.in-Ok.ensures.position in omega (arith, p));
      put = c.len-put.ensures ∙ sym c.deref.ensures.len ∙ ap (λ (bs : List ℕ). length bs) c.deref.ensures.value;
      told = put_too s t c.loop-alloc.machine.position c.args.budget i.state i.within (g.O.Sink.told c.args.out.now) (g.O.Sink.told c.loop-alloc.out) i.told u c.one.new.self.position c.loop-alloc.put
          c.in-Ok.ensures.ok c.in-Ok.ensures.position c.if-machine-budget.true i.put (g.O.Sink.told c.put_from.new.out) put;
      faults = (let f = c.put_from.ensures.faults in omega (arith, f));
    }

pub returns : goal.returns
returns g c =
    let i = c.loop-alloc.invariant in
    let s = state_of g.M.Memory.at c.args.machine.now in
    let t = state_of g.M.Memory.at c.loop-alloc.machine in
    let over : (is_over t ≡ true) ⊎ (c.args.budget ≤ c.loop-alloc.machine.position) =
    elim c.loop-alloc-test.branch [
      | then-loop-alloc-test+else-machine-budget w ↦ inr (omega (arith, w.if-machine-budget.false))
      | else-loop-alloc-test w ↦ inl (has_ended c.loop-alloc.machine.end (c.is_none.ensures ∙ ap not w.loop-alloc-test.false))
    ] in
    let all : t ≡ state_after c.args.budget s = after_all s t c.loop-alloc.machine.position c.args.budget i.state i.within over in
    stood s c.args.budget (record { told = g.O.Sink.told c.args.out.now; left = g.O.Sink.told c.loop-alloc.out; before = g.O.Sink.faults c.args.out.now; now = g.O.Sink.faults c.loop-alloc.out })
    c.stand.result t.arch.pc t.env.over c.stand.ensures (ap stands all) (subst (λ bs. Gains (g.O.Sink.told c.args.out.now) (g.O.Sink.told c.loop-alloc.out) bs) (ap (λ (x : State). x.env.output) all) i.told)
