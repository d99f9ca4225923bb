-- The anchor is the one that was due, and the master was driven to its spawn.
use Rattle.std.proofs.Common.{◌≡◌, ℕ, ◌+◌, ◌-◌, List, Some, true, length, sym, ap, ◌∙◌, subst, arith}
use Rattle.std.specs.Prelude.{map, nat_lt}
use Rattle.std.specs.Option.{option_map}
use Rattle.std.proofs.Math.Logic.{∥∥₁_map}
use Rattle.std.proofs.lemmas.List.{length-map}
use Rattle.cells.specs.Cells.{value}
use Rattle.rv_semantics.specs.Values.{plain_value}
use Rattle.speculation.specs.declared.Effect.TheVariants.{Forked}
use Rattle.speculation.specs.declared.Event.TheVariants as event
use Rattle.slave.proofs.Keeps.{on_err}
use Rattle.slave.specs.Task.{fresh}
use Rattle.slave.specs.Task.{shown as task_shown}
use Rattle.master.specs.Shown.{shown as master_shown}
use Rattle.engine.specs.Shown.{shown, AreTasksOf}
use Rattle.engine.proofs.Lists.{more_pushed, tasks_append}
use Rattle.engine.proofs.Masters.{does_by, does_fork, costly_fork, due_within, spawns, spawned_is, spawning, forked}
use Rattle.engine.proofs.stage.Stage.fork.Goals as goal

-- the room, by what the tasks show
room_is : {X Y : Type 0} (f : X → Y) (xs : List X) (slaves : ℕ) → nat_lt (length xs) slaves ≡ true → nat_lt (length (map f xs)) slaves ≡ true
room_is f xs slaves room = ap (λ n. nat_lt n slaves) (length-map xs f) ∙ room

pub anchor_of_number-anchor-requires-clause-number : goal.anchor_of_number-anchor-requires-clause-number
anchor_of_number-anchor-requires-clause-number g c =
    let at = g.M.Memory.at in
    let s = shown at c.args.self.now in
    due_within c.args.self.now.image s.master (master_shown at c.in-Some.master) c.args.number c.requires.image (ap (option_map (master_shown at)) c.in-Some.is) c.requires.due

pub returns-in_err-task-clause-sure : goal.returns-in_err-task-clause-sure
returns-in_err-task-clause-sure g c =
    let at = g.M.Memory.at in
    let old = c.args.self.now in
    on_err c.from_residual.result
    (costly_fork old.image old.slaves c.requires.image (shown at old) (master_shown at c.in-Some.master) c.args.number c.anchor_of_number-anchor.result (ap (option_map (master_shown at)) c.in-Some.is) c.requires.due c.anchor_of_number-anchor.ensures.found
    (room_is (task_shown at) old.tasks.items old.slaves c.requires.room))

pub returns-in_err-push_back-clause-sure : goal.returns-in_err-push_back-clause-sure
returns-in_err-push_back-clause-sure g c =
    let at = g.M.Memory.at in
    let old = c.args.self.now in
    on_err c.from_residual-in_err-push_back.result
    (costly_fork old.image old.slaves c.requires.image (shown at old) (master_shown at c.in-Some.master) c.args.number c.anchor_of_number-anchor.result (ap (option_map (master_shown at)) c.in-Some.is) c.requires.due c.anchor_of_number-anchor.ensures.found
    (room_is (task_shown at) old.tasks.items old.slaves c.requires.room))

pub returns-clause-ok : goal.returns-clause-ok
returns-clause-ok g c =
    let at = g.M.Memory.at in
    let old = c.args.self.now in
    let s = shown at old in
    let a = master_shown at c.in-Some.master in
    let x = c.anchor_of_number-anchor.result in
    let found = c.anchor_of_number-anchor.ensures.found in
    let is = ap (option_map (master_shown at)) c.in-Some.is in
    let next : s.next + 1 - 1 ≡ s.next = omega arith in
    let master = spawned_is old.image c.in_ok-advance.field-0 (master_shown at c.advance.new.self) (spawning x a) x.pc
    (c.in_ok-advance.ensures.ok ∙ spawns old.image old.slaves c.requires.image s a c.args.number x is c.requires.due found) in
    let task = c.in_ok-task.ensures.shown ∙ (λ i. fresh s.next x.count (plain_value x.pc (c.regs.ensures i) (at (c.mem.ensures i)))) in
    let tasks = more_pushed (task_shown at) old.tasks.items c.push_back.new.self.items c.in_ok-task.task (fresh s.next x.count (value (record a.arch { pc = x.pc }))) c.in_ok-push_back.ensures.items task in
    does_by old.image old.slaves event.Master s (Forked s.next) (Forked (s.next + 1 - 1)) (forked x a s) _ (ap Forked next)
    (λ i. record s { master = Some (master i); tasks = tasks i; next = s.next + 1 })
    (does_fork old.image old.slaves c.requires.image s a c.args.number x is c.requires.due found (room_is (task_shown at) old.tasks.items old.slaves c.requires.room))

pub returns-clause-tasks : goal.returns-clause-tasks
returns-clause-tasks g c =
    let at = g.M.Memory.at in
    let image = c.args.self.now.image in
    let k = task_shown at c.in_ok-task.task in
    let tasks = more_pushed (task_shown at) c.args.self.now.tasks.items c.push_back.new.self.items c.in_ok-task.task k c.in_ok-push_back.ensures.items (λ _. k) in
    ∥∥₁_map c.requires.tasks (λ h. subst (AreTasksOf image) (sym tasks) (tasks_append image (shown at c.args.self.now).tasks k h (c.in_ok-task.ensures.task image c.requires.image)))
