-- By what happened on the stage, and what was counted.
use Rattle.std.proofs.Common.{◌≡◌, ℕ, ◌+◌, ◌≤◌, sym, subst}
use Rattle.speculation.specs.declared.Counts.{Counts}
use Rattle.speculation.specs.declared.Effect.TheVariants.{Idle}
use Rattle.speculation.specs.World.{World}
use Rattle.speculation.specs.Kept.{Holds}
use Rattle.dist_image.specs.Image.{Distilled, IsImage}
use Rattle.image_semantics.specs.World.{world}
use Rattle.seq_machine.specs.States.{state_of}
use Rattle.slave.proofs.Keeps.{on_err}
use Rattle.engine.specs.Shown.{Shown, shown, modelled, AreTasksOf}
use Rattle.engine.proofs.Kept.{sequential, position_is, squashed_few, serial_few, position_few, numbered, costly, counts_fit, answered, holds_after, told, idle, rises, owed}
use Rattle.engine.proofs.Rests.{idle_counted}
use Rattle.engine.proofs.engine.Engine.event.Goals as goal

-- what is kept of a stage is kept of one that shows the same
same_holds : (w : World) (s t : Shown) (c : Counts) → t ≡ s → ∥ Holds w (modelled s c) ∥₁ → ∥ Holds w (modelled t c) ∥₁
same_holds w s t c e = subst (λ (x : Shown). ∥ Holds w (modelled x c) ∥₁) (sym e)

pub rests-requires-clause-numbers : goal.rests-requires-clause-numbers
rests-requires-clause-numbers g c =
    let at = g.M.Memory.at in
    let o = c.args.self.now in
    numbered (world (state_of at o.start) o.stage.image o.stage.slaves) (modelled (shown at o.stage) o.counts) o.holds

pub invariant_of-self : goal.invariant_of-self
invariant_of-self g c =
    let at = g.M.Memory.at in
    let o = c.args.self.now in
    record {
      image = o.image;
      some = o.some;
      few = o.few;
      tasks = o.tasks;
      holds = holds_after (state_of at o.start) o.stage.image o.stage.slaves o.image o.some (shown at o.stage) o.counts o.holds c.args.e Idle (shown at o.stage) (c.rests.ensures c.if-rests.true) (record o.counts { events = o.counts.events + 1 }) (idle_counted c.args.e o.counts);
    }

pub returns-then-rests-clause-ok : goal.returns-then-rests-clause-ok
returns-then-rests-clause-ok g c =
    let at = g.M.Memory.at in
    let o = c.args.self.now in
    answered (state_of at o.start) o.stage.image o.stage.slaves o.image o.some (shown at o.stage) o.counts o.holds c.args.e Idle (shown at o.stage) (c.rests.ensures c.if-rests.true) (record o.counts { events = o.counts.events + 1 }) (idle_counted c.args.e o.counts)

pub returns-then-rests-clause-rises : goal.returns-then-rests-clause-rises
returns-then-rests-clause-rises g c =
    let at = g.M.Memory.at in
    let o = c.args.self.now in
    rises (state_of at o.start) o.stage.image o.stage.slaves o.image o.some (shown at o.stage) o.counts o.holds c.args.e Idle (shown at o.stage) (c.rests.ensures c.if-rests.true) (record o.counts { events = o.counts.events + 1 }) (idle_counted c.args.e o.counts)

pub returns-then-rests-clause-told : goal.returns-then-rests-clause-told
returns-then-rests-clause-told g c =
    let at = g.M.Memory.at in
    let o = c.args.self.now in
    told (state_of at o.start) o.stage.image o.stage.slaves o.image o.some (shown at o.stage) o.counts o.holds c.args.e Idle (shown at o.stage) (c.rests.ensures c.if-rests.true) (record o.counts { events = o.counts.events + 1 }) (idle_counted c.args.e o.counts)

pub returns-then-rests-clause-idle : goal.returns-then-rests-clause-idle
returns-then-rests-clause-idle g c =
    let at = g.M.Memory.at in
    let o = c.args.self.now in
    idle (state_of at o.start) o.stage.image o.stage.slaves o.image o.some (shown at o.stage) o.counts o.holds c.args.e Idle (shown at o.stage) (c.rests.ensures c.if-rests.true) (record o.counts { events = o.counts.events + 1 }) (idle_counted c.args.e o.counts)

pub returns-then-rests-clause-owed : goal.returns-then-rests-clause-owed
returns-then-rests-clause-owed g c =
    let at = g.M.Memory.at in
    let o = c.args.self.now in
    owed (state_of at o.start) o.stage.image o.stage.slaves o.image o.some (shown at o.stage) o.counts o.holds c.args.e Idle (shown at o.stage) (c.rests.ensures c.if-rests.true) (record o.counts { events = o.counts.events + 1 }) (idle_counted c.args.e o.counts)

pub returns-then-rests-clause-sequential : goal.returns-then-rests-clause-sequential
returns-then-rests-clause-sequential g c =
    let at = g.M.Memory.at in
    let o = c.args.self.now in
    sequential (world (state_of at o.start) o.stage.image o.stage.slaves) (modelled (shown at o.stage) (record o.counts { events = o.counts.events + 1 }))
    (holds_after (state_of at o.start) o.stage.image o.stage.slaves o.image o.some (shown at o.stage) o.counts o.holds c.args.e Idle (shown at o.stage) (c.rests.ensures c.if-rests.true) (record o.counts { events = o.counts.events + 1 }) (idle_counted c.args.e o.counts))

pub returns-then-rests-clause-position : goal.returns-then-rests-clause-position
returns-then-rests-clause-position g c =
    let at = g.M.Memory.at in
    let o = c.args.self.now in
    position_is (world (state_of at o.start) o.stage.image o.stage.slaves) (modelled (shown at o.stage) (record o.counts { events = o.counts.events + 1 }))
    (holds_after (state_of at o.start) o.stage.image o.stage.slaves o.image o.some (shown at o.stage) o.counts o.holds c.args.e Idle (shown at o.stage) (c.rests.ensures c.if-rests.true) (record o.counts { events = o.counts.events + 1 }) (idle_counted c.args.e o.counts))

pub returns-then-rests-clause-squashed : goal.returns-then-rests-clause-squashed
returns-then-rests-clause-squashed g c =
    let at = g.M.Memory.at in
    let o = c.args.self.now in
    squashed_few (world (state_of at o.start) o.stage.image o.stage.slaves) (modelled (shown at o.stage) (record o.counts { events = o.counts.events + 1 }))
    (holds_after (state_of at o.start) o.stage.image o.stage.slaves o.image o.some (shown at o.stage) o.counts o.holds c.args.e Idle (shown at o.stage) (c.rests.ensures c.if-rests.true) (record o.counts { events = o.counts.events + 1 }) (idle_counted c.args.e o.counts))

pub returns-then-rests-clause-serial : goal.returns-then-rests-clause-serial
returns-then-rests-clause-serial g c =
    let at = g.M.Memory.at in
    let o = c.args.self.now in
    serial_few (world (state_of at o.start) o.stage.image o.stage.slaves) (modelled (shown at o.stage) (record o.counts { events = o.counts.events + 1 }))
    (holds_after (state_of at o.start) o.stage.image o.stage.slaves o.image o.some (shown at o.stage) o.counts o.holds c.args.e Idle (shown at o.stage) (c.rests.ensures c.if-rests.true) (record o.counts { events = o.counts.events + 1 }) (idle_counted c.args.e o.counts))

pub returns-then-rests-clause-events : goal.returns-then-rests-clause-events
returns-then-rests-clause-events g c =
    let at = g.M.Memory.at in
    let o = c.args.self.now in
    position_few (world (state_of at o.start) o.stage.image o.stage.slaves) (modelled (shown at o.stage) (record o.counts { events = o.counts.events + 1 }))
    (holds_after (state_of at o.start) o.stage.image o.stage.slaves o.image o.some (shown at o.stage) o.counts o.holds c.args.e Idle (shown at o.stage) (c.rests.ensures c.if-rests.true) (record o.counts { events = o.counts.events + 1 }) (idle_counted c.args.e o.counts))

pub happen-requires-clause-numbers : goal.happen-requires-clause-numbers
happen-requires-clause-numbers g c =
    let at = g.M.Memory.at in
    let o = c.args.self.now in
    numbered (world (state_of at o.start) o.stage.image o.stage.slaves) (modelled (shown at o.stage) o.counts) o.holds

pub returns-in_err-effect-clause-sure : goal.returns-in_err-effect-clause-sure
returns-in_err-effect-clause-sure g c =
    let at = g.M.Memory.at in
    let o = c.args.self.now in
    on_err c.from_residual.result
    (costly (state_of at o.start) o.stage.image o.stage.slaves o.image o.some (shown at o.stage) o.counts o.holds c.args.e c.in_err-effect.ensures.running c.in_err-effect.ensures.sure)

pub returns-in_err-effect-clause-sequential : goal.returns-in_err-effect-clause-sequential
returns-in_err-effect-clause-sequential g c =
    let at = g.M.Memory.at in
    let o = c.args.self.now in
    let w = world (state_of at o.start) o.stage.image o.stage.slaves in
    let t = shown at c.happen.new.self in
    sequential w (modelled t o.counts) (same_holds w (shown at o.stage) t o.counts c.in_err-effect.ensures.err o.holds)

pub returns-in_err-effect-clause-position : goal.returns-in_err-effect-clause-position
returns-in_err-effect-clause-position g c =
    let at = g.M.Memory.at in
    let o = c.args.self.now in
    let w = world (state_of at o.start) o.stage.image o.stage.slaves in
    let t = shown at c.happen.new.self in
    position_is w (modelled t o.counts) (same_holds w (shown at o.stage) t o.counts c.in_err-effect.ensures.err o.holds)

pub returns-in_err-effect-clause-squashed : goal.returns-in_err-effect-clause-squashed
returns-in_err-effect-clause-squashed g c =
    let at = g.M.Memory.at in
    let o = c.args.self.now in
    squashed_few (world (state_of at o.start) o.stage.image o.stage.slaves) (modelled (shown at o.stage) o.counts) o.holds

pub returns-in_err-effect-clause-serial : goal.returns-in_err-effect-clause-serial
returns-in_err-effect-clause-serial g c =
    let at = g.M.Memory.at in
    let o = c.args.self.now in
    let w = world (state_of at o.start) o.stage.image o.stage.slaves in
    let t = shown at c.happen.new.self in
    serial_few w (modelled t o.counts) (same_holds w (shown at o.stage) t o.counts c.in_err-effect.ensures.err o.holds)

pub returns-in_err-effect-clause-events : goal.returns-in_err-effect-clause-events
returns-in_err-effect-clause-events g c =
    let at = g.M.Memory.at in
    let o = c.args.self.now in
    let w = world (state_of at o.start) o.stage.image o.stage.slaves in
    let t = shown at c.happen.new.self in
    position_few w (modelled t o.counts) (same_holds w (shown at o.stage) t o.counts c.in_err-effect.ensures.err o.holds)

pub count-requires : goal.count-requires
count-requires g c =
    let at = g.M.Memory.at in
    let o = c.args.self.now in
    counts_fit (state_of at o.start) o.stage.image o.stage.slaves o.image o.some (shown at o.stage) o.counts o.holds c.args.e c.in_ok-effect.effect (shown at c.happen.new.self) c.in_ok-effect.ensures.ok c.requires

pub invariant_of-self-2 : goal.invariant_of-self-2
invariant_of-self-2 g c =
    let at = g.M.Memory.at in
    let o = c.args.self.now in
    let start = state_of at o.start in
    let t = shown at c.happen.new.self in
    let image = sym c.happen.ensures.image in
    let slaves = sym c.happen.ensures.slaves in
    record {
      image = subst IsImage image o.image;
      some = subst (λ (n : ℕ). 1 ≤ n) slaves o.some;
      few = subst (λ (n : ℕ). n ≤ 64) slaves o.few;
      tasks = subst (λ (x : Distilled). ∥ AreTasksOf x t.tasks ∥₁) image c.in_ok-effect.ensures.tasks;
      holds = subst (λ (x : Distilled × ℕ). ∥ Holds (world start x.0 x.1) (modelled t c.count.new.c) ∥₁) (λ i. (image i, slaves i))
          (holds_after start o.stage.image o.stage.slaves o.image o.some (shown at o.stage) o.counts o.holds c.args.e c.in_ok-effect.effect t c.in_ok-effect.ensures.ok c.count.new.c c.count.ensures);
    }

pub returns-clause-ok : goal.returns-clause-ok
returns-clause-ok g c =
    let at = g.M.Memory.at in
    let o = c.args.self.now in
    answered (state_of at o.start) o.stage.image o.stage.slaves o.image o.some (shown at o.stage) o.counts o.holds c.args.e c.in_ok-effect.effect (shown at c.happen.new.self) c.in_ok-effect.ensures.ok c.count.new.c c.count.ensures

pub returns-clause-rises : goal.returns-clause-rises
returns-clause-rises g c =
    let at = g.M.Memory.at in
    let o = c.args.self.now in
    rises (state_of at o.start) o.stage.image o.stage.slaves o.image o.some (shown at o.stage) o.counts o.holds c.args.e c.in_ok-effect.effect (shown at c.happen.new.self) c.in_ok-effect.ensures.ok c.count.new.c c.count.ensures

pub returns-clause-told : goal.returns-clause-told
returns-clause-told g c =
    let at = g.M.Memory.at in
    let o = c.args.self.now in
    told (state_of at o.start) o.stage.image o.stage.slaves o.image o.some (shown at o.stage) o.counts o.holds c.args.e c.in_ok-effect.effect (shown at c.happen.new.self) c.in_ok-effect.ensures.ok c.count.new.c c.count.ensures

pub returns-clause-idle : goal.returns-clause-idle
returns-clause-idle g c =
    let at = g.M.Memory.at in
    let o = c.args.self.now in
    idle (state_of at o.start) o.stage.image o.stage.slaves o.image o.some (shown at o.stage) o.counts o.holds c.args.e c.in_ok-effect.effect (shown at c.happen.new.self) c.in_ok-effect.ensures.ok c.count.new.c c.count.ensures

pub returns-clause-owed : goal.returns-clause-owed
returns-clause-owed g c =
    let at = g.M.Memory.at in
    let o = c.args.self.now in
    owed (state_of at o.start) o.stage.image o.stage.slaves o.image o.some (shown at o.stage) o.counts o.holds c.args.e c.in_ok-effect.effect (shown at c.happen.new.self) c.in_ok-effect.ensures.ok c.count.new.c c.count.ensures

pub returns-clause-sequential : goal.returns-clause-sequential
returns-clause-sequential g c =
    let at = g.M.Memory.at in
    let o = c.args.self.now in
    sequential (world (state_of at o.start) o.stage.image o.stage.slaves) (modelled (shown at c.happen.new.self) c.count.new.c)
    (holds_after (state_of at o.start) o.stage.image o.stage.slaves o.image o.some (shown at o.stage) o.counts o.holds c.args.e c.in_ok-effect.effect (shown at c.happen.new.self) c.in_ok-effect.ensures.ok c.count.new.c c.count.ensures)

pub returns-clause-position : goal.returns-clause-position
returns-clause-position g c =
    let at = g.M.Memory.at in
    let o = c.args.self.now in
    position_is (world (state_of at o.start) o.stage.image o.stage.slaves) (modelled (shown at c.happen.new.self) c.count.new.c)
    (holds_after (state_of at o.start) o.stage.image o.stage.slaves o.image o.some (shown at o.stage) o.counts o.holds c.args.e c.in_ok-effect.effect (shown at c.happen.new.self) c.in_ok-effect.ensures.ok c.count.new.c c.count.ensures)

pub returns-clause-squashed : goal.returns-clause-squashed
returns-clause-squashed g c =
    let at = g.M.Memory.at in
    let o = c.args.self.now in
    squashed_few (world (state_of at o.start) o.stage.image o.stage.slaves) (modelled (shown at c.happen.new.self) c.count.new.c)
    (holds_after (state_of at o.start) o.stage.image o.stage.slaves o.image o.some (shown at o.stage) o.counts o.holds c.args.e c.in_ok-effect.effect (shown at c.happen.new.self) c.in_ok-effect.ensures.ok c.count.new.c c.count.ensures)

pub returns-clause-serial : goal.returns-clause-serial
returns-clause-serial g c =
    let at = g.M.Memory.at in
    let o = c.args.self.now in
    serial_few (world (state_of at o.start) o.stage.image o.stage.slaves) (modelled (shown at c.happen.new.self) c.count.new.c)
    (holds_after (state_of at o.start) o.stage.image o.stage.slaves o.image o.some (shown at o.stage) o.counts o.holds c.args.e c.in_ok-effect.effect (shown at c.happen.new.self) c.in_ok-effect.ensures.ok c.count.new.c c.count.ensures)

pub returns-clause-events : goal.returns-clause-events
returns-clause-events g c =
    let at = g.M.Memory.at in
    let o = c.args.self.now in
    position_few (world (state_of at o.start) o.stage.image o.stage.slaves) (modelled (shown at c.happen.new.self) c.count.new.c)
    (holds_after (state_of at o.start) o.stage.image o.stage.slaves o.image o.some (shown at o.stage) o.counts o.holds c.args.e c.in_ok-effect.effect (shown at c.happen.new.self) c.in_ok-effect.ensures.ok c.count.new.c c.count.ensures)
