-- The oldest task, by what its view tells.
use Rattle.std.proofs.Common.{◌<◌, length, sym, ap, ◌∙◌, subst, rules}
use Rattle.std.proofs.Math.Logic.{∥∥₁_map}
use Rattle.cells.specs.Cells.{value}
use Rattle.cells.specs.Differ.{differ}
use Rattle.speculation.specs.declared.Effect.TheVariants.{Committed, Squashed}
use Rattle.speculation.specs.declared.Event.TheVariants as event
use Rattle.layers.specs.Layered.{seen_of}
use Rattle.slave.proofs.Keeps.{on_err}
use Rattle.slave.specs.Task.{shown as task_shown}
use Rattle.engine.specs.Shown.{Shown, shown, AreTasksOf, given_up, retired, dropped_of, younger}
use Rattle.engine.proofs.Lists.{first_of}
use Rattle.engine.proofs.Masters.{does_by}
use Rattle.engine.proofs.Commits.{wrote_zero, does_squash, does_commit, costly_commit, retired_tasks, moved_on}
use Rattle.engine.proofs.stage.Stage.commit.Goals as goal

pub returns-in-Some-compare-clause-ok : goal.returns-in-Some-compare-clause-ok
returns-in-Some-compare-clause-ok g c =
    let at = g.M.Memory.at in
    let s = shown at c.args.self.now in
    let image = c.args.self.now.image in
    let slaves = c.args.self.now.slaves in
    let x = c.in-Some.front.now in
    let k = task_shown at x in
    let some : 0 < length c.args.self.now.tasks.items = search rules in
    let front = first_of (task_shown at) c.args.self.now.tasks.items x some c.in-Some.ensures.lookup in
    let ending = sym c.ending.ensures ∙ c.in-Some-ending.is in
    let differs = ap (λ v. differ (seen_of at v).recorded (value s.committed.arch)) (sym c.view.ensures) ∙ sym c.in-Some-compare.ensures.first in
    does_by image slaves event.Commit s (Squashed c.in-Some-compare.differ) (Squashed c.in-Some-compare.differ) (given_up s) (shown at c.give_up.new.self) (λ _. Squashed c.in-Some-compare.differ) c.give_up.ensures.shown
    (does_squash image s k (younger s.tasks) front c.requires.tasks slaves c.in-Some-ending.ending c.in-Some-compare.differ ending differs)

pub lay-requires-clause-zero : goal.lay-requires-clause-zero
lay-requires-clause-zero g c =
    let at = g.M.Memory.at in
    let s = shown at c.args.self.now in
    let image = c.args.self.now.image in
    let x = c.in-Some.front.now in
    let some : 0 < length c.args.self.now.tasks.items = search rules in
    let front = first_of (task_shown at) c.args.self.now.tasks.items x some c.in-Some.ensures.lookup in
    wrote_zero image s (task_shown at x) (younger s.tasks) front c.requires.tasks

pub returns-in_err-lay-clause-sure : goal.returns-in_err-lay-clause-sure
returns-in_err-lay-clause-sure g c =
    let at = g.M.Memory.at in
    let s = shown at c.args.self.now in
    let image = c.args.self.now.image in
    let slaves = c.args.self.now.slaves in
    let x = c.in-Some.front.now in
    let some : 0 < length c.args.self.now.tasks.items = search rules in
    let front = first_of (task_shown at) c.args.self.now.tasks.items x some c.in-Some.ensures.lookup in
    let none = ap (λ v. differ (seen_of at v).recorded (value s.committed.arch)) (sym c.view.ensures) ∙ sym c.in_default-compare.ensures.first in
    on_err c.from_residual.result (costly_commit image s (task_shown at x) (younger s.tasks) front c.requires.tasks slaves c.in-Some-ending.ending (sym c.ending.ensures ∙ c.in-Some-ending.is) none)

pub returns-clause-ok : goal.returns-clause-ok
returns-clause-ok g c =
    let at = g.M.Memory.at in
    let s = shown at c.args.self.now in
    let image = c.args.self.now.image in
    let slaves = c.args.self.now.slaves in
    let x = c.in-Some.front.now in
    let k = task_shown at x in
    let e = c.in-Some-ending.ending in
    let some : 0 < length c.args.self.now.tasks.items = search rules in
    let front = first_of (task_shown at) c.args.self.now.tasks.items x some c.in-Some.ensures.lookup in
    let none = ap (λ v. differ (seen_of at v).recorded (value s.committed.arch)) (sym c.view.ensures) ∙ sym c.in_default-compare.ensures.first in
    does_by image slaves event.Commit s (Committed k.steps (dropped_of e s.tasks)) (Committed c.steps-steps.result c.retire-dropped.result) (retired e (moved_on k s)) (shown at c.retire-dropped.new.self)
    (λ i. Committed (c.steps-steps.ensures i) (c.retire-dropped.ensures.dropped i))
    (c.retire-dropped.ensures.shown ∙ (λ i. retired e (record s { committed = c.in_ok-lay.ensures.ok i; position = c.in_ok-lay.ensures.position i })))
    (does_commit image s k (younger s.tasks) front c.requires.tasks slaves e (sym c.ending.ensures ∙ c.in-Some-ending.is) none)

pub returns-clause-tasks : goal.returns-clause-tasks
returns-clause-tasks g c =
    let at = g.M.Memory.at in
    let s = shown at c.args.self.now in
    let image = c.args.self.now.image in
    ∥∥₁_map c.requires.tasks
    (λ h. subst (λ (u : Shown). AreTasksOf image u.tasks) (sym c.retire-dropped.ensures.shown) (retired_tasks image c.in-Some-ending.ending _ h))
