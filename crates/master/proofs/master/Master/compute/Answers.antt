-- Where no slot follows, the one register that was set is put back.
use Rattle.std.proofs.Common.{◌≡◌, sym, ap, ◌∙◌, subst}
use Rattle.std.specs.Prelude.{nat_eq}
use Rattle.cells.specs.Cells.{Arch}
use Rattle.rv_semantics.specs.Values.{arch_of}
use Rattle.rv_semantics.specs.declared.Flow.TheVariants.{Call}
use Rattle.master.specs.Word.{Leaves, placed}
use Rattle.master.specs.Shown.{shown, called}
use Rattle.master.proofs.Registers.{put_back}
use Rattle.master.proofs.Events.{exec_calls}
use Rattle.master.proofs.master.Master.compute.Goals as goal

pub returns-in-None-clause-stays : goal.returns-in-None-clause-stays
returns-in-None-clause-stays g c =
    let at = g.M.Memory.at in
    let old = c.args.self.now in
    let new = c.perform.new.arch in
    let set = c.set_register.new.regs in
    let others = c.in_ok-to.ensures.registers c.requires.no_store in
    let mem = c.in_ok-to.ensures.memory c.requires.no_store in
    let back = put_back old.arch.regs new.regs set c.target-target.result (λ n e. others n (ap (λ k. nat_eq k n) (sym c.target-target.ensures.register) ∙ e)) c.set_register.ensures in
    (λ i. record (shown at old) { arch = arch_of (c.perform.ensures.pc i) set (mem i) })
    ∙ ap (λ (a : Arch). record (shown at old) { arch = a }) (back old.arch.pc (at old.arch.mem))

pub returns-in-Call-clause-ok : goal.returns-in-Call-clause-ok
returns-in-Call-clause-ok g c =
    let at = g.M.Memory.at in
    let old = c.args.self.now in
    let o = c.args.origin in
    let leaves : Leaves c.args.word (placed at o old.arch) (placed at o c.perform.new.arch) Call =
    subst (Leaves c.args.word (placed at o old.arch) (placed at o c.perform.new.arch)) c.in-Call.is c.in_ok-to.ensures.leaves in
    let same : shown at (record old { arch = c.perform.new.arch }) ≡ shown at old = λ i. record (shown at old) { arch = record (leaves.1 i) { pc = c.perform.ensures.pc i } } in
    c.call.ensures.ok ∙ ap (λ a. called c.args.image.now a o) same ∙ sym (exec_calls c.args.image.now (shown at old) o c.args.word leaves.2)
