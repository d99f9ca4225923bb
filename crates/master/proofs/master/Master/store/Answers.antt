-- A store goes on behind itself, or isn't done.
use Rattle.std.proofs.Common.{sym, ◌∙◌}
use Rattle.rv_semantics.specs.Effect.{after}
use Rattle.dist_image.specs.Image.{slot_of}
use Rattle.master.specs.Word.{placed}
use Rattle.master.specs.Shown.{shown}
use Rattle.master.proofs.Events.{store_lost, store_goes, goes_on}
use Rattle.master.proofs.master.Master.store.Goals as goal

pub returns-in-None-clause-ok : goal.returns-in-None-clause-ok
returns-in-None-clause-ok g c =
    sym (store_lost c.args.image.now (shown g.M.Memory.at c.args.self.now) c.args.origin c.args.word c.requires.store (sym c.slot_at.ensures ∙ c.in-None.is))

pub returns-in_ok-perform-in-Some-clause-ok : goal.returns-in_ok-perform-in-Some-clause-ok
returns-in_ok-perform-in-Some-clause-ok g c =
    let at = g.M.Memory.at in
    let image = c.args.image.now in
    let a = shown at c.args.self.now in
    let o = c.args.origin in
    let t = placed at o c.perform.new.arch in
    goes_on image a (shown at c.move_to.new.self) (record t { pc = after o }) c.in-Some.slot (slot_of image (after o)) c.move_to.result c.move_to.ensures.did c.move_to.ensures.shown (sym c.slot_at.ensures ∙ c.in-Some.is)
    ∙ sym (store_goes image a o c.args.word c.in_ok-perform-in-Some.field-0 t c.requires.store c.in_ok-perform-in-Some.ensures.leaves)
