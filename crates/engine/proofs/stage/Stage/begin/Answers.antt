-- The master and one task, in a queue that was empty.
use Rattle.std.proofs.Common.{ℕ, ◌+◌, Some, sym, ap, ◌∙◌, subst}
use Rattle.cells.specs.Cells.{value}
use Rattle.rv_semantics.specs.Values.{arch_of}
use Rattle.speculation.specs.declared.Mode.TheVariants.{Speculating}
use Rattle.slave.specs.Task.{fresh}
use Rattle.slave.specs.Task.{shown as task_shown}
use Rattle.engine.specs.Shown.{shown, AreTasksOf}
use Rattle.engine.proofs.Lists.{one_pushed}
use Rattle.engine.proofs.stage.Stage.begin.Goals as goal

pub returns-clause-ok : goal.returns-clause-ok
returns-clause-ok g c =
    let at = g.M.Memory.at in
    let m = c.args.self.now.machine in
    let s = shown at c.args.self.now in
    let count = c.args.anchor.now.count in
    let task = c.in_ok-task.ensures.shown ∙ ap (λ (pc : ℕ). fresh c.args.self.now.next count (value (arch_of pc m.arch.regs (at m.arch.mem)))) c.requires.pc in
    let tasks = one_pushed (task_shown at) c.args.self.now.tasks.items c.push_back.new.self.items c.in_ok-task.task (fresh s.next count (value s.committed.arch)) c.requires.empty c.in_ok-push_back.ensures.items task in
    λ i. record {
      committed = s.committed;
      position = s.position;
      mode = Speculating;
      master = Some (c.in_ok-master.ensures i);
      tasks = tasks i;
      next = s.next + 1;
    }

pub returns-clause-tasks : goal.returns-clause-tasks
returns-clause-tasks g c = λ image ok.
    let f = task_shown g.M.Memory.at in
    subst (AreTasksOf image) (sym (one_pushed f c.args.self.now.tasks.items c.push_back.new.self.items c.in_ok-task.task (f c.in_ok-task.task) c.requires.empty c.in_ok-push_back.ensures.items (λ _. f c.in_ok-task.task)))
    (c.in_ok-task.ensures.task image ok, tt)
