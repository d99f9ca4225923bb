-- By the slots spent, the anchors left, and the slot.
use Rattle.std.proofs.Common.{cond, None, sym, ap, ◌∙◌, arith}
use Rattle.std.specs.Prelude.{slice_get}
use Rattle.std.proofs.lemmas.Bool.{eq-eqb}
use Rattle.master.specs.Shown.{shown, forking}
use Rattle.master.proofs.Events.{none_spent, none_left, due_slot}
use Rattle.master.proofs.master.Master.next_spawn.Goals as goal
use Rattle.master.proofs.master.Master.next_spawn.Goals.{then-self-fuel-via-then-self-fuel, then-self-fuel-via-else-self-fuel+then-self-ne1}

pub returns-then-self-fuel : goal.returns-then-self-fuel
returns-then-self-fuel g c =
    elim c.then-self-fuel.branch [
      | then-self-fuel-via-then-self-fuel w ↦ sym (none_spent c.args.image.now (shown g.M.Memory.at c.args.self.now) (omega arith))
      | then-self-fuel-via-else-self-fuel+then-self-ne1 w ↦ sym (none_left c.args.image.now (shown g.M.Memory.at c.args.self.now) w.if-self-ne1.true)
    ]

pub returns : goal.returns
returns g c =
    let a = shown g.M.Memory.at c.args.self.now in
    c.forking.ensures
    ∙ ap forking c.due.ensures
    ∙ sym (due_slot c.args.image.now a (omega arith) ∙ ap (λ b. cond b (forking (slice_get c.args.image.now.slots a.slot)) None) (eq-eqb a.left 1 c.if-self-ne1.false))
