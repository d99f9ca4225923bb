-- With no spawn due, or no room for one, the master spawns nothing.
use Rattle.std.proofs.Common.{sym, ap, ◌∙◌, subst}
use Rattle.std.specs.Option.{option_map}
use Rattle.slave.proofs.Keeps.{on_err}
use Rattle.master.specs.Shown.{shown as master_shown, next_spawn, as_driven, anchor_pc, SpawnsNext}
use Rattle.engine.specs.Shown.{shown, due_at}
use Rattle.engine.proofs.Masters.{costly_drive, no_spawn}
use Rattle.engine.proofs.stage.Stage.advance.Goals as goal

pub returns-in_err-advance-clause-sure : goal.returns-in_err-advance-clause-sure
returns-in_err-advance-clause-sure g c =
    let at = g.M.Memory.at in
    on_err c.from_residual.result
    (costly_drive c.args.self.now.image c.args.self.now.slaves (shown at c.args.self.now) (master_shown at c.in-Some.master) (ap (option_map (master_shown at)) c.in-Some.is) c.in_err-advance.ensures.sure)

pub unreachable-requires-in-Spawned : goal.unreachable-requires-in-Spawned
unreachable-requires-in-Spawned g c =
    let at = g.M.Memory.at in
    let image = c.args.self.now.image in
    let a = master_shown at c.in-Some.master in
    let b = master_shown at c.advance.new.self in
    let k = c.in-Spawned.field-0 in
    let is = ap (option_map (master_shown at)) c.in-Some.is in
    no_spawn image c.args.room a b k (anchor_pc image k) c.requires.image (sym c.in_ok-advance.ensures.ok ∙ ap (λ d. as_driven image d b) c.in-Spawned.is)
    (subst (SpawnsNext (next_spawn image a)) c.in-Spawned.is c.in_ok-advance.ensures.spawned)
    (λ room. sym (ap (due_at image) is) ∙ c.requires.due room)
