-- What the slot does is what the event does.
use Rattle.std.proofs.Common.{◌≡◌, ◌∙◌, cond, Some, None, sym, ap, subst, arith}
use Rattle.std.specs.Prelude.{nat_eq}
use Rattle.std.proofs.lemmas.Result.{on_err_weaker}
use Rattle.dist_image.specs.declared.image.Slot.TheVariants.{Exec, Go, Fork}
use Rattle.image_semantics.specs.World.{drive, exec_at}
use Rattle.master.specs.Shown.{shown, next_spawn, forking, SpawnsNext}
use Rattle.master.proofs.Events.{drive_spent, drive_slot, due_slot, none_else, drives}
use Rattle.master.proofs.master.Master.advance.Goals as goal

pub returns-then-self-fuel-clause-ok : goal.returns-then-self-fuel-clause-ok
returns-then-self-fuel-clause-ok g c = sym (drive_spent c.args.image.now c.args.room (shown g.M.Memory.at c.args.self.now) (omega arith))

pub returns-in-None-clause-ok : goal.returns-in-None-clause-ok
returns-in-None-clause-ok g c =
    sym (drive_slot c.args.image.now c.args.room (shown g.M.Memory.at c.args.self.now) None (omega arith) (sym c.due.ensures ∙ c.in-None.is))

pub returns-in-Some-Fork-clause-ok : goal.returns-in-Some-Fork-clause-ok
returns-in-Some-Fork-clause-ok g c =
    c.fork.ensures.ok
    ∙ sym (drive_slot c.args.image.now c.args.room (shown g.M.Memory.at c.args.self.now) (Some (Fork c.in-Some-Fork.anchor)) (omega arith) (sym c.due.ensures ∙ c.in-Some-Fork.is ∙ ap Some c.in-Some-Fork.field-0-is))

pub returns-in-Some-Go-clause-ok : goal.returns-in-Some-Go-clause-ok
returns-in-Some-Go-clause-ok g c =
    c.go.ensures.ok
    ∙ sym (drive_slot c.args.image.now c.args.room (shown g.M.Memory.at c.args.self.now) (Some (Go c.in-Some-Go.target)) (omega arith) (sym c.due.ensures ∙ c.in-Some-Go.is ∙ ap Some c.in-Some-Go.field-0-is))

pub returns-in-Some-Exec-clause-ok : goal.returns-in-Some-Exec-clause-ok
returns-in-Some-Exec-clause-ok g c =
    let image = c.args.image.now in
    let a = shown g.M.Memory.at c.args.self.now in
    let o = c.in-Some-Exec.origin in
    let w = c.in-Some-Exec.word in
    let e = drive_slot image c.args.room a (Some (Exec o w)) (omega arith) (sym c.due.ensures ∙ c.in-Some-Exec.is ∙ ap Some c.in-Some-Exec.field-0-is) in
    drives c.exec.result image (shown g.M.Memory.at c.exec.new.self) (exec_at image a o w) (drive image c.args.room a) (sym e) c.exec.ensures.ok

pub returns-in-Some-Fork-clause-spawned : goal.returns-in-Some-Fork-clause-spawned
returns-in-Some-Fork-clause-spawned g c =
    let a = shown g.M.Memory.at c.args.self.now in
    let at = sym c.due.ensures ∙ c.in-Some-Fork.is ∙ ap Some c.in-Some-Fork.field-0-is in
    let due : next_spawn c.args.image.now a ≡ cond (nat_eq a.left 1) (Some c.in-Some-Fork.anchor) None =
    due_slot c.args.image.now a (omega arith) ∙ ap (λ o. cond (nat_eq a.left 1) (forking o) None) at in
    subst (λ due. SpawnsNext due c.fork.result) (sym due) c.fork.ensures.spawned

pub returns-in-Some-Exec-clause-sure : goal.returns-in-Some-Exec-clause-sure
returns-in-Some-Exec-clause-sure g c =
    let a = shown g.M.Memory.at c.args.self.now in
    let at = sym c.due.ensures ∙ c.in-Some-Exec.is ∙ ap Some c.in-Some-Exec.field-0-is in
    let none = none_else c.args.image.now a (ap forking at) in
    on_err_weaker c.exec.result (λ _. none) c.exec.ensures.err
