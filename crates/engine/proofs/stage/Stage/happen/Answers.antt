-- The event is that of its kind, of a machine that goes on.
use Rattle.std.proofs.Common.{sym, ◌∙◌, subst}
use Rattle.speculation.specs.declared.Event.TheVariants as event
use Rattle.slave.proofs.Keeps.{on_err}
use Rattle.engine.specs.Shown.{shown, IsCostly}
use Rattle.engine.proofs.Runs.{goes_on}
use Rattle.engine.proofs.stage.Stage.happen.Goals as goal

pub returns-in_ok-effect-in-Restart-clause-ok : goal.returns-in_ok-effect-in-Restart-clause-ok
returns-in_ok-effect-in-Restart-clause-ok g c =
    let at = g.M.Memory.at in
    goes_on c.args.self.now.image c.args.self.now.slaves c.args.e event.Restart (shown at c.args.self.now) (shown at c.restart.new.self) _ c.in-Restart.is
    (sym c.is_some.ensures ∙ c.if-is_some.false) c.in_ok-effect-in-Restart.ensures.ok

pub returns-in_err-effect-in-Restart-clause-sure : goal.returns-in_err-effect-in-Restart-clause-sure
returns-in_err-effect-in-Restart-clause-sure g c =
    let at = g.M.Memory.at in
    on_err c.from_residual.result
    (subst (λ e. IsCostly c.args.self.now.image c.args.self.now.slaves e (shown at c.args.self.now)) (sym c.in-Restart.is) c.in_err-effect-in-Restart.ensures.sure)

pub returns-in_ok-effect-in-Serial-clause-ok : goal.returns-in_ok-effect-in-Serial-clause-ok
returns-in_ok-effect-in-Serial-clause-ok g c =
    let at = g.M.Memory.at in
    goes_on c.args.self.now.image c.args.self.now.slaves c.args.e event.Serial (shown at c.args.self.now) (shown at c.step.new.self) _ c.in-Serial.is
    (sym c.is_some.ensures ∙ c.if-is_some.false) c.in_ok-effect-in-Serial.ensures.ok

pub returns-in_err-effect-in-Serial-clause-sure : goal.returns-in_err-effect-in-Serial-clause-sure
returns-in_err-effect-in-Serial-clause-sure g c =
    let at = g.M.Memory.at in
    on_err c.from_residual-in_err-effect-in-Serial.result
    (subst (λ e. IsCostly c.args.self.now.image c.args.self.now.slaves e (shown at c.args.self.now)) (sym c.in-Serial.is) c.in_err-effect-in-Serial.ensures.sure)

pub returns-in_ok-effect-in-Master-clause-ok : goal.returns-in_ok-effect-in-Master-clause-ok
returns-in_ok-effect-in-Master-clause-ok g c =
    let at = g.M.Memory.at in
    goes_on c.args.self.now.image c.args.self.now.slaves c.args.e event.Master (shown at c.args.self.now) (shown at c.drive.new.self) _ c.in-Master.is
    (sym c.is_some.ensures ∙ c.if-is_some.false) c.in_ok-effect-in-Master.ensures.ok

pub returns-in_err-effect-in-Master-clause-sure : goal.returns-in_err-effect-in-Master-clause-sure
returns-in_err-effect-in-Master-clause-sure g c =
    let at = g.M.Memory.at in
    on_err c.from_residual-in_err-effect-in-Master.result
    (subst (λ e. IsCostly c.args.self.now.image c.args.self.now.slaves e (shown at c.args.self.now)) (sym c.in-Master.is) c.in_err-effect-in-Master.ensures.sure)

pub returns-in_ok-effect-in-Slave-clause-ok : goal.returns-in_ok-effect-in-Slave-clause-ok
returns-in_ok-effect-in-Slave-clause-ok g c =
    let at = g.M.Memory.at in
    goes_on c.args.self.now.image c.args.self.now.slaves c.args.e (event.Slave c.in-Slave.j) (shown at c.args.self.now) (shown at c.run.new.self) _ c.in-Slave.is
    (sym c.is_some.ensures ∙ c.if-is_some.false) c.in_ok-effect-in-Slave.ensures.ok

pub returns-in_err-effect-in-Slave-clause-sure : goal.returns-in_err-effect-in-Slave-clause-sure
returns-in_err-effect-in-Slave-clause-sure g c =
    let at = g.M.Memory.at in
    on_err c.from_residual-in_err-effect-in-Slave.result
    (subst (λ e. IsCostly c.args.self.now.image c.args.self.now.slaves e (shown at c.args.self.now)) (sym c.in-Slave.is) c.in_err-effect-in-Slave.ensures.sure)

pub returns-in_ok-effect-in-Commit-clause-ok : goal.returns-in_ok-effect-in-Commit-clause-ok
returns-in_ok-effect-in-Commit-clause-ok g c =
    let at = g.M.Memory.at in
    goes_on c.args.self.now.image c.args.self.now.slaves c.args.e event.Commit (shown at c.args.self.now) (shown at c.commit.new.self) _ c.in-Commit.is
    (sym c.is_some.ensures ∙ c.if-is_some.false) c.in_ok-effect-in-Commit.ensures.ok

pub returns-in_err-effect-in-Commit-clause-sure : goal.returns-in_err-effect-in-Commit-clause-sure
returns-in_err-effect-in-Commit-clause-sure g c =
    let at = g.M.Memory.at in
    on_err c.from_residual-in_err-effect-in-Commit.result
    (subst (λ e. IsCostly c.args.self.now.image c.args.self.now.slaves e (shown at c.args.self.now)) (sym c.in-Commit.is) c.in_err-effect-in-Commit.ensures.sure)
