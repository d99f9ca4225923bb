-- The first task that runs there takes its step.
use Rattle.std.proofs.Common.{◌≡◌, ℕ, ◌<◌, Bool, true, false, List, length, get_or, Some, None, sym, ap, ◌∙◌, subst, arith}
use Rattle.std.specs.Prelude.{map}
use Rattle.std.specs.List.{position}
use Rattle.std.specs.Coded.{le_prop}
use Rattle.std.proofs.Math.ListN.{set}
use Rattle.std.proofs.Math.Logic.{∥∥₁_elim, ∥∥₁_map}
use Rattle.std.proofs.lemmas.List.{length-map, map-set, get_or-map, set-get_or}
use Rattle.std.proofs.lemmas.List.Quantifiers.{position-Some}
use Rattle.speculation.specs.declared.Event.TheVariants as event
use Rattle.speculation.specs.Task.{advance as next_task}
use Rattle.image_semantics.specs.World.{world}
use Rattle.seq_machine.specs.States.{state_of}
use Rattle.slave.proofs.Keeps.{on_err}
use Rattle.slave.specs.Task.{Shown as TaskShown, modelled as task_modelled, IsTaskOf}
use Rattle.slave.specs.Task.{shown as task_shown}
use Rattle.engine.specs.Shown.{shown, is_shown_run_by, AreTasksOf}
use Rattle.engine.proofs.Sets.{Task-set}
use Rattle.engine.proofs.Lists.{none_is, running, none_of, task_at, tasks_set}
use Rattle.engine.proofs.Masters.{does_by}
use Rattle.engine.proofs.Runs.{has_room, does_rest, does_run, costly_run}
use Rattle.engine.proofs.stage.Stage.run.Goals as goal

-- what is known of the place that was found, in the list of what the tasks show
record IsFirst (p : TaskShown → Bool) (ks : List TaskShown) (i : ℕ) (k : TaskShown) : Type 0 where
  within : i < length ks
  item : (d : TaskShown) → get_or ks i d ≡ k
  passes : p k ≡ true
  before : (n : ℕ) (d : TaskShown) → n < i → p (get_or ks n d) ≡ false

first_is : {X : Type 0} (f : X → TaskShown) (p : TaskShown → Bool) (xs : List X) (i : ℕ) (x : X) → Some i ≡ position (λ t. p (f t)) xs → x ≡ get_or xs i x → IsFirst p (map f xs) i (f x)
first_is f p xs i x found is =
    let h = position-Some (λ t. p (f t)) xs i x (sym found) in
    let len = length-map xs f in
    record {
      within = subst (λ n. i < n) (sym len) h.0;
      item = λ d. get_or-map f xs i x d h.0 ∙ ap f (sym is);
      passes = ap (λ t. p (f t)) is ∙ h.1;
      before = λ n d l. ap p (get_or-map f xs n x d (let t = h.0 in omega (arith, l, t))) ∙ h.2 n l;
    }

pub advance-requires-clause-running : goal.advance-requires-clause-running
advance-requires-clause-running g c =
    let f = task_shown g.M.Memory.at in
    let h = first_is f (is_shown_run_by c.args.self.now.slaves c.args.slave) c.args.self.now.tasks.items c.in-Some.place c.index_mut.result.now c.in-Some.ensures c.index_mut.ensures.value in
    running _ c.index_mut.result.now.ending h.passes

pub advance-requires-clause-room : goal.advance-requires-clause-room
advance-requires-clause-room g c =
    let at = g.M.Memory.at in
    let f = task_shown at in
    let image = c.args.self.now.image in
    let x = c.index_mut.result.now in
    let ks = (shown at c.args.self.now).tasks in
    let h = first_is f (is_shown_run_by c.args.self.now.slaves c.args.slave) c.args.self.now.tasks.items c.in-Some.place x c.in-Some.ensures c.index_mut.ensures.value in
    ∥∥₁_elim c.requires.tasks le_prop
    (λ known. has_room (state_of at c.args.self.now.machine) image (f x) (subst (IsTaskOf image) (h.item (f x)) (task_at image ks c.in-Some.place (f x) known h.within)) (none_of x.ending (running _ x.ending h.passes)))

pub returns-in_err-did-in-Some-clause-err : goal.returns-in_err-did-in-Some-clause-err
returns-in_err-did-in-Some-clause-err g c =
    let at = g.M.Memory.at in
    let f = task_shown at in
    let items = c.args.self.now.tasks.items in
    let i = c.in-Some.place in
    let x = c.index_mut.result.now in
    let tasks = map-set f items i c.advance.new.self ∙ ap (set (map f items) i) (c.in_err-did-in-Some.ensures.err ∙ ap f c.index_mut.ensures.value) ∙ sym (map-set f items i (get_or items i x)) ∙ ap (map f) (set-get_or items i x) in
    on_err c.from_residual.result (λ z. record (shown at c.args.self.now) { tasks = tasks z })

pub returns-in_err-did-in-Some-clause-sure : goal.returns-in_err-did-in-Some-clause-sure
returns-in_err-did-in-Some-clause-sure g c =
    let at = g.M.Memory.at in
    let f = task_shown at in
    let x = c.index_mut.result.now in
    let p = is_shown_run_by c.args.self.now.slaves c.args.slave in
    let h = first_is f p c.args.self.now.tasks.items c.in-Some.place x c.in-Some.ensures c.index_mut.ensures.value in
    on_err c.from_residual.result
    (costly_run c.args.self.now.image c.args.self.now.slaves (shown at c.args.self.now) c.args.slave c.in-Some.place (f x) h.within (ap p (h.item (f x)) ∙ h.passes) (λ k l. h.before k (f x) l))

pub returns-in-None-clause-ok : goal.returns-in-None-clause-ok
returns-in-None-clause-ok g c =
    let at = g.M.Memory.at in
    does_rest c.args.self.now.image c.args.self.now.slaves (shown at c.args.self.now) c.args.slave
    (none_is (task_shown at) (is_shown_run_by c.args.self.now.slaves c.args.slave) c.args.self.now.tasks.items c.in-None.ensures)

pub returns-in_ok-did-in-Some-clause-ok : goal.returns-in_ok-did-in-Some-clause-ok
returns-in_ok-did-in-Some-clause-ok g c =
    let at = g.M.Memory.at in
    let f = task_shown at in
    let image = c.args.self.now.image in
    let slaves = c.args.self.now.slaves in
    let items = c.args.self.now.tasks.items in
    let i = c.in-Some.place in
    let x = c.index_mut.result.now in
    let y = c.advance.new.self in
    let p = is_shown_run_by slaves c.args.slave in
    let s = shown at c.args.self.now in
    let h = first_is f p items i x c.in-Some.ensures c.index_mut.ensures.value in
    let does = does_run image slaves s c.args.slave i (f x) h.within (ap p (h.item (f x)) ∙ h.passes) (λ k l. h.before k (f x) l) (f y) c.of_task.result
    (λ start. ∥∥₁_elim c.requires.tasks (Task-set _ _)
    (λ known. c.in_ok-did-in-Some.ensures.model (subst (IsTaskOf image) (h.item (f x)) (task_at image s.tasks i (f x) known h.within)) start slaves
    ∙ ap (λ k. next_task (world start image slaves) (task_modelled k)) (sym (h.item (f x)))))
    (c.of_task.ensures y.ending c.in_ok-did-in-Some.ensures.did) in
    does_by image slaves (event.Slave c.args.slave) s c.of_task.result c.of_task.result (record s { tasks = set s.tasks i (f y) }) _ (λ _. c.of_task.result) (λ z. record s { tasks = map-set f items i y z }) does

pub returns-in_ok-did-in-Some-clause-tasks : goal.returns-in_ok-did-in-Some-clause-tasks
returns-in_ok-did-in-Some-clause-tasks g c =
    let at = g.M.Memory.at in
    let f = task_shown at in
    let image = c.args.self.now.image in
    let items = c.args.self.now.tasks.items in
    let i = c.in-Some.place in
    let x = c.index_mut.result.now in
    let y = c.advance.new.self in
    let ks = (shown at c.args.self.now).tasks in
    let h = first_is f (is_shown_run_by c.args.self.now.slaves c.args.slave) items i x c.in-Some.ensures c.index_mut.ensures.value in
    ∥∥₁_map c.requires.tasks
    (λ known. subst (AreTasksOf image) (sym (map-set f items i y))
    (tasks_set image ks i (f y) known (c.in_ok-did-in-Some.ensures.task (subst (IsTaskOf image) (h.item (f x)) (task_at image ks i (f x) known h.within)))))
