-- A short write sets x10 alone, and goes on behind itself.
use Rattle.std.proofs.Common.{◌+◌, [], ◌∷◌, sym, ap, ◌∙◌}
use Rattle.cells.specs.declared.Cell.TheVariants.{Reg}
use Rattle.cells.specs.Cells.{Arch}
use Rattle.rv_semantics.specs.Effect.{next, after}
use Rattle.rv_semantics.specs.Machine.{moved}
use Rattle.dist_image.specs.Image.{slot_of}
use Rattle.image_semantics.specs.World.{go_to}
use Rattle.master.specs.Shown.{shown}
use Rattle.master.proofs.Events.{answered, goes_on, called_by}
use Rattle.master.proofs.master.Master.call.Goals as goal

pub returns-then-not-answers-clause-ok : goal.returns-then-not-answers-clause-ok
returns-then-not-answers-clause-ok g c =
    sym (called_by c.args.image.now (shown g.M.Memory.at c.args.self.now) c.args.origin (sym c.answers.ensures ∙ c.if-not-answers.true))

pub returns-in-None-clause-ok : goal.returns-in-None-clause-ok
returns-in-None-clause-ok g c =
    let image = c.args.image.now in
    let a = shown g.M.Memory.at c.args.self.now in
    sym (called_by image a c.args.origin (sym c.answers.ensures ∙ c.if-not-answers.false)
    ∙ ap (go_to a (moved (next c.args.origin ((Reg 10, a.arch.regs 12) ∷ [])) a.arch)) (sym c.slot_at.ensures ∙ c.in-None.is))

pub returns-in-Some-clause-ok : goal.returns-in-Some-clause-ok
returns-in-Some-clause-ok g c =
    let at = g.M.Memory.at in
    let image = c.args.image.now in
    let old = c.args.self.now in
    let a = shown at old in
    let o = c.args.origin in
    let set = answered old.arch.regs c.set_register.new.regs old.arch.pc o (at old.arch.mem) c.set_register.ensures in
    goes_on image a (shown at c.move_to.new.self) (moved (next o ((Reg 10, a.arch.regs 12) ∷ [])) a.arch) c.in-Some.slot (slot_of image (after o)) c.move_to.result
    c.move_to.ensures.did
    (c.move_to.ensures.shown ∙ ap (λ (t : Arch). record a { slot = c.in-Some.slot; arch = t; spent = old.spent + 1 }) set)
    (sym c.slot_at.ensures ∙ c.in-Some.is)
    ∙ sym (called_by image a o (sym c.answers.ensures ∙ c.if-not-answers.false))
