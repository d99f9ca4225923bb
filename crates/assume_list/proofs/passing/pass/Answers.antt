-- Position after position.
use Rattle.std.proofs.Common.{◌≡◌, ℕ, ◌∙◌, subst, refl, Option, arith}
use Rattle.seq_machine.specs.States.{state_of}
use Rattle.image_semantics.specs.World.{count_of}
use Rattle.fitting.specs.Fits.{is_anchor_pc}
use Rattle.assumption_laws.specs.Looks.{first_failing}
use Rattle.access_trace.specs.Shadows.{mark_at}
use Rattle.assume_list.specs.Marks.{dead_in}
use Rattle.assume_list.specs.Shown.{shown}
use Rattle.assume_list.specs.Passes.{HasTurned}
use Rattle.assume_list.proofs.Watched.{next, first_is}
use Rattle.assume_list.proofs.Turns.{goes, reached_first, clean_first, passed_late, passed_failed, passed_on_so}
use Rattle.assume_list.proofs.passing.pass.Goals as goal

pub loop-alloc-init : goal.loop-alloc-init
loop-alloc-init g c =
    let start = state_of g.M.Memory.at c.args.watch.now.machine in
    let zero = c.requires.position in
    record {
      watched = c.requires.watched;
      listed = refl;
      reached = reached_first start c.args.image.now c.args.asked.bound c.args.watch.now.machine.position start (shown c.args.waits.now) zero refl c.requires.none;
      clean = clean_first start c.args.image.now c.args.watch.now.machine.position zero;
      within = omega (arith, zero);
      known = c.requires.known;
      arrivals = (let none = c.requires.arrivals in omega (arith, none));
      early = c.requires.early;
      limit = refl;
    }

pub returns-in-Some-clause-passed : goal.returns-in-Some-clause-passed
returns-in-Some-clause-passed g c =
    let at = g.M.Memory.at in
    let image = c.args.image.now in
    let start = state_of at c.args.watch.now.machine in
    let w = c.loop-alloc.watch in
    let s = state_of at w.machine in
    let t = state_of at c.step.new.self.machine in
    let j = w.machine.position in
    let i = c.loop-alloc.invariant in
    let going = (goes w.machine.end j _ c.goes_on.result c.goes_on.ensures c.loop-alloc-test.true).0 in
    let Turned : Option ℕ → Type 0 =
    (λ o. HasTurned image.limit c.bound_after-until.result j (count_of image s.arch.pc) c.in_ok-seen.seen.stops (is_anchor_pc image t.arch.pc) (shown c.loop-alloc.waits) (shown c.take_turn.new.waits) o) in
    passed_late start image c.requires.image c.in_ok-seen.seen.first c.args.asked.span c.args.asked.bound c.bound_after-until.result j c.in-Some.since s (shown c.loop-alloc.waits) (shown c.take_turn.new.waits)
    c.in_ok-seen.seen.stops (is_anchor_pc image t.arch.pc) c.bound_after-until.ensures i.reached i.clean going (subst Turned c.in-Some.is c.in_ok-since.ensures.turned)

pub returns-in-Some-first-clause-passed : goal.returns-in-Some-first-clause-passed
returns-in-Some-first-clause-passed g c =
    let at = g.M.Memory.at in
    let image = c.args.image.now in
    let start = state_of at c.args.watch.now.machine in
    let w = c.loop-alloc.watch in
    let s = state_of at w.machine in
    let t = state_of at c.step.new.self.machine in
    let j = w.machine.position in
    let i = c.loop-alloc.invariant in
    let going = (goes w.machine.end j _ c.goes_on.result c.goes_on.ensures c.loop-alloc-test.true).0 in
    let Turned : Option ℕ → Type 0 =
    (λ o. HasTurned image.limit c.bound_after-until.result j (count_of image s.arch.pc) c.in_ok-seen.seen.stops (is_anchor_pc image t.arch.pc) (shown c.loop-alloc.waits) (shown c.take_turn.new.waits) o) in
    let fails : c.in_ok-seen.seen.first ≡ first_failing start image j =
    c.in_ok-seen.ensures.first ∙ first_is start image j s (at w.program) (dead_in image.assumptions) (mark_at at w.marks) w.analysed i.watched in
    let below = (goes w.machine.end j _ c.goes_on.result c.goes_on.ensures c.loop-alloc-test.true).1 in
    passed_failed start image c.in_ok-seen.seen.first c.args.asked.span c.args.budget c.args.asked.bound c.bound_after-until.result j c.step.new.self.machine.position c.in-Some-first.which s t
    (shown c.loop-alloc.waits) (shown c.take_turn.new.waits) c.in_ok-seen.seen.stops c.bound_after-until.ensures c.in-Some-first.is fails i.reached i.clean going below
    c.in_ok-seen.ensures.state c.in_ok-seen.ensures.position c.in_ok-seen.ensures.stops (subst Turned c.in-None.is c.in_ok-since.ensures.turned)

pub loop-alloc-preserved : goal.loop-alloc-preserved
loop-alloc-preserved g c =
    let at = g.M.Memory.at in
    let image = c.args.image.now in
    let start = state_of at c.args.watch.now.machine in
    let w = c.loop-alloc.watch in
    let s = state_of at w.machine in
    let t = state_of at c.step.new.self.machine in
    let j = w.machine.position in
    let i = c.loop-alloc.invariant in
    let going = (goes w.machine.end j _ c.goes_on.result c.goes_on.ensures c.loop-alloc-test.true).0 in
    let Turned : Option ℕ → Type 0 =
    (λ o. HasTurned image.limit c.bound_after-until.result j (count_of image s.arch.pc) c.in_ok-seen.seen.stops (is_anchor_pc image t.arch.pc) (shown c.loop-alloc.waits) (shown c.take_turn.new.waits) o) in
    let fails : c.in_ok-seen.seen.first ≡ first_failing start image j =
    c.in_ok-seen.ensures.first ∙ first_is start image j s (at w.program) (dead_in image.assumptions) (mark_at at w.marks) w.analysed i.watched in
    let on = passed_on_so start image c.in_ok-seen.seen.first c.args.asked.span c.args.asked.bound c.bound_after-until.result j c.step.new.self.machine.position s t
    (shown c.loop-alloc.waits) (shown c.take_turn.new.waits) c.in_ok-seen.seen.stops c.bound_after-until.ensures c.in-None-first.is fails i.reached i.clean going
    c.in_ok-seen.ensures.state c.in_ok-seen.ensures.position c.in_ok-seen.ensures.stops (subst Turned c.in-None.is c.in_ok-since.ensures.turned) in
    let later = c.step.new.self in
    record {
      watched = next start image j later.machine.position s t (at w.program) (dead_in image.assumptions) (mark_at at w.marks) (at later.program) (dead_in image.assumptions) (mark_at at later.marks) w.analysed later.analysed
          i.watched c.in_ok-seen.ensures.position c.in_ok-seen.ensures.state c.in_ok-seen.ensures.program refl c.in_ok-seen.ensures.marks c.in_ok-seen.ensures.analysed;
      listed = c.step.ensures.listed ∙ i.listed;
      reached = on.0;
      clean = on.1;
      known = c.take_turn.ensures.known;
      within = (let p = c.in_ok-seen.ensures.position in let below = (goes w.machine.end j _ c.goes_on.result c.goes_on.ensures c.loop-alloc-test.true).1 in omega (arith, p, below));
      arrivals = (let a = c.in_ok-since.ensures.arrivals in let p = c.in_ok-seen.ensures.position in omega (arith, a, p));
      early = c.in_ok-since.ensures.early;
      limit = c.take_turn.ensures.limit ∙ i.limit;
    }
