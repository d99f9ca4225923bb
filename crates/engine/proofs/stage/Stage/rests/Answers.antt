-- Each event by what it would look for.
use Rattle.std.proofs.Common.{not, sym, ap, ◌∙◌}
use Rattle.speculation.specs.declared.Event.TheVariants as event
use Rattle.slave.specs.Task.{shown as task_shown}
use Rattle.master.specs.Shown.{shown as master_shown}
use Rattle.engine.specs.Shown.{shown, is_shown_run_by}
use Rattle.engine.proofs.Lists.{none_is}
use Rattle.engine.proofs.Runs.{does_rest}
use Rattle.engine.proofs.Rests.{none_of, none_shown, idle_always, restart_rests, serial_rests, master_rests, commit_rests}
use Rattle.engine.proofs.stage.Stage.rests.Goals as goal

pub returns-in-Restart : goal.returns-in-Restart
returns-in-Restart g c = λ h.
    let s = shown g.M.Memory.at c.args.self.now in
    idle_always c.args.self.now.image c.args.self.now.slaves s c.args.e event.Restart c.in-Restart.is
    (restart_rests c.args.self.now.image c.args.self.now.slaves s (ap not (sym c.may_start.ensures) ∙ h))

pub returns-in-Serial : goal.returns-in-Serial
returns-in-Serial g c = λ h.
    let s = shown g.M.Memory.at c.args.self.now in
    idle_always c.args.self.now.image c.args.self.now.slaves s c.args.e event.Serial c.in-Serial.is
    (serial_rests c.args.self.now.image c.args.self.now.slaves s (sym c.is_ahead.ensures ∙ h))

pub returns-in-Master : goal.returns-in-Master
returns-in-Master g c = λ h.
    let s = shown g.M.Memory.at c.args.self.now in
    idle_always c.args.self.now.image c.args.self.now.slaves s c.args.e event.Master c.in-Master.is
    (master_rests c.args.self.now.image c.args.self.now.slaves s (none_shown (master_shown g.M.Memory.at) c.args.self.now.master (c.is_none.ensures ∙ ap not h)))

pub returns-in-Slave : goal.returns-in-Slave
returns-in-Slave g c = λ h.
    let s = shown g.M.Memory.at c.args.self.now in
    let slaves = c.args.self.now.slaves in
    let none = none_is (task_shown g.M.Memory.at) (is_shown_run_by slaves c.in-Slave.j) c.args.self.now.tasks.items (none_of c.runner.result (c.is_none-in-Slave.ensures ∙ ap not h) ∙ c.runner.ensures) in
    idle_always c.args.self.now.image slaves s c.args.e (event.Slave c.in-Slave.j) c.in-Slave.is (does_rest c.args.self.now.image slaves s c.in-Slave.j none)

pub returns-in-Commit : goal.returns-in-Commit
returns-in-Commit g c = λ h.
    let s = shown g.M.Memory.at c.args.self.now in
    idle_always c.args.self.now.image c.args.self.now.slaves s c.args.e event.Commit c.in-Commit.is
    (commit_rests c.args.self.now.image c.args.self.now.slaves s (ap not (sym c.has_done_front.ensures) ∙ h))
