-- Turn after turn, up to the end of the run or past the limit.
use Rattle.std.proofs.Common.{◌∙◌, subst, inl, inr, ⊎_elim, arith}
use Rattle.seq_machine.specs.States.{state_of}
use Rattle.image_semantics.specs.World.{count_of}
use Rattle.fitting.specs.Fits.{is_anchor_pc}
use Rattle.assume_list.specs.Shown.{shown}
use Rattle.assume_list.specs.Passes.{HasTurned}
use Rattle.assume_list.proofs.Turns.{wakes, wakes_not, turned_late, turned_on, awaited_early, awake_on}
use Rattle.assume_list.proofs.passing.wait.Goals as goal

pub returns-in-Some-clause-awaited : goal.returns-in-Some-clause-awaited
returns-in-Some-clause-awaited g c = λ start r.
    let at = g.M.Memory.at in
    let j = c.loop-alloc.machine.position in
    turned_late start c.args.image.now c.requires.image c.args.bound j c.in-Some.since (state_of at c.loop-alloc.machine) (shown c.loop-alloc.waits) (shown c.take_turn.new.waits) c.in_ok-stops.stops (is_anchor_pc c.args.image.now c.step_on.new.machine.arch.pc)
    (c.loop-alloc.invariant.reached start r)
    (wakes c.loop-alloc.machine.end j c.args.bound _ (shown c.loop-alloc.waits) c.is_awaited.result c.is_awaited.ensures c.loop-alloc-test.true).0
    (subst (λ o. HasTurned c.args.image.now.limit c.args.bound j (count_of c.args.image.now c.loop-alloc.machine.arch.pc) c.in_ok-stops.stops (is_anchor_pc c.args.image.now c.step_on.new.machine.arch.pc)
    (shown c.loop-alloc.waits) (shown c.take_turn.new.waits) o) c.in-Some.is c.in_ok-since.ensures.turned)

pub loop-alloc-preserved : goal.loop-alloc-preserved
loop-alloc-preserved g c =
    let at = g.M.Memory.at in
    let j = c.loop-alloc.machine.position in
    record {
      reached = λ start r. turned_on start c.args.image.now c.args.bound j c.step_on.new.machine.position (state_of at c.loop-alloc.machine) (state_of at c.step_on.new.machine)
          (shown c.loop-alloc.waits) (shown c.take_turn.new.waits) _
          (c.loop-alloc.invariant.reached start r)
          (wakes c.loop-alloc.machine.end j c.args.bound _ (shown c.loop-alloc.waits) c.is_awaited.result c.is_awaited.ensures c.loop-alloc-test.true).0
          c.in_ok-stops.ensures.state c.in_ok-stops.ensures.position c.in_ok-stops.ensures.stops
          (subst (λ o. HasTurned c.args.image.now.limit c.args.bound j (count_of c.args.image.now c.loop-alloc.machine.arch.pc) c.in_ok-stops.stops (is_anchor_pc c.args.image.now c.step_on.new.machine.arch.pc)
          (shown c.loop-alloc.waits) (shown c.take_turn.new.waits) o) c.in-None.is c.in_ok-since.ensures.turned);
      known = c.take_turn.ensures.known;
      awake = λ start r. awake_on start c.args.image.now c.args.bound c.args.machine.now.position j c.step_on.new.machine.position (state_of at c.loop-alloc.machine) (shown c.loop-alloc.waits)
          (c.loop-alloc.invariant.reached start r) c.in_ok-stops.ensures.position (wakes c.loop-alloc.machine.end j c.args.bound _ (shown c.loop-alloc.waits) c.is_awaited.result c.is_awaited.ensures c.loop-alloc-test.true).1.1
          (c.loop-alloc.invariant.awake start r);
      near = (let p = c.in_ok-stops.ensures.position in let low = (wakes c.loop-alloc.machine.end j c.args.bound _ (shown c.loop-alloc.waits) c.is_awaited.result c.is_awaited.ensures c.loop-alloc-test.true).1.0 in omega (arith, p, low));
      arrivals = (let a = c.in_ok-since.ensures.arrivals in let p = c.in_ok-stops.ensures.position in omega (arith, a, p));
      early = c.in_ok-since.ensures.early;
      limit = c.take_turn.ensures.limit ∙ c.loop-alloc.invariant.limit;
    }

pub returns-clause-awaited : goal.returns-clause-awaited
returns-clause-awaited g c = λ start r.
    let at = g.M.Memory.at in
    let here = c.from.ensures in
    let is = c.requires.limit in
    let done = wakes_not c.loop-alloc.machine.end c.loop-alloc.machine.position c.args.bound _ (shown c.loop-alloc.waits) c.is_awaited.result c.is_awaited.ensures c.loop-alloc-test.false in
    awaited_early start c.args.image.now c.requires.image c.args.bound c.loop-alloc.machine.position (state_of at c.loop-alloc.machine) (shown c.loop-alloc.waits) (c.loop-alloc.invariant.reached start r)
    (⊎_elim (λ over. inl over) (λ other. inr (⊎_elim (λ far. inl (omega (arith, far, here, is))) (λ none. inr none) other)) done)
