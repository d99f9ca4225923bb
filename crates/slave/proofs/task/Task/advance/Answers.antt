-- An event of a task: what the code did is the event on what contracts see, and so all else that is known of that.
use Rattle.std.proofs.Common.{sym, ap, ◌∙◌, subst}
use Rattle.std.specs.Prelude.{IsNone}
use Rattle.dist_image.specs.Image.{Distilled}
use Rattle.slave.specs.Task.{Shown, shown, modelled, IsTaskOf}
use Rattle.slave.proofs.Keeps.{went_is, goes, advanced_is_task, follows_run, none_is, on_err}
use Rattle.slave.proofs.task.Task.advance.Goals as goal

pub returns-in_err-next-clause-err : goal.returns-in_err-next-clause-err
returns-in_err-next-clause-err g c = on_err c.from_residual.result c.in_err-next.ensures.err

pub go_on-requires-clause-running : goal.go_on-requires-clause-running
go_on-requires-clause-running g c = subst IsNone (sym (ap (λ (k : Shown). k.ending) c.in_ok-next.ensures.ok)) c.requires.running

pub returns-clause-ok : goal.returns-clause-ok
returns-clause-ok g c =
    c.go_on.ensures
    ∙ went_is c.args.image.now (shown g.M.Memory.at c.args.self.now) (shown g.M.Memory.at c.perform.new.self) c.in_ok-next.next c.in_ok-next.ensures.ok c.in_ok-next.ensures.next

pub returns-clause-task : goal.returns-clause-task
returns-clause-task g c = λ h.
    let image : Distilled = c.args.image.now in
    let k : Shown = shown g.M.Memory.at c.args.self.now in
    subst (IsTaskOf image) (sym (returns-clause-ok g c)) (advanced_is_task image c.requires.image k h (none_is k.ending c.requires.running))

pub returns-clause-model : goal.returns-clause-model
returns-clause-model g c = λ h start slaves.
    let image : Distilled = c.args.image.now in
    let k : Shown = shown g.M.Memory.at c.args.self.now in
    ap modelled (returns-clause-ok g c) ∙ (goes start image slaves k (h start slaves) (none_is k.ending c.requires.running)).0

pub returns-clause-law : goal.returns-clause-law
returns-clause-law g c = λ h s. follows_run s c.args.image.now 0 (shown g.M.Memory.at c.go_on.new.self) (returns-clause-task g c h s 0) s
