-- The anchor is the one where the machine stands.
use Rattle.std.proofs.Common.{◌≡◌, false, sym, rules, arith}
use Rattle.std.proofs.lemmas.Grind.{common_steps}
use Rattle.speculation.specs.declared.Effect.TheVariants.{Started}
use Rattle.speculation.specs.declared.Event.TheVariants as event
use Rattle.speculation.specs.declared.Mode.TheVariants.{Serial}
use Rattle.engine.specs.Shown.{shown, begun, Does}
use Rattle.engine.proofs.Anchors.{anchor_there}
use Rattle.engine.proofs.Masters.{does_by, does_restart}
use Rattle.engine.proofs.Runs.{both_ok}
use Rattle.engine.proofs.stage.Stage.restart.Goals as goal

pub begin-requires-clause-pc : goal.begin-requires-clause-pc
begin-requires-clause-pc g c = anchor_there c.args.self.now.image c.requires.image c.args.self.now.machine.arch.pc c.in-Some.anchor (sym c.in-Some.ensures.found)

pub returns-in-Some-clause-ok : goal.returns-in-Some-clause-ok
returns-in-Some-clause-ok g c =
    let at = g.M.Memory.at in
    let s = shown at c.args.self.now in
    let image = c.args.self.now.image in
    let slaves = c.args.self.now.slaves in
    let x = c.in-Some.anchor in
    let mode : s.mode ≡ Serial false = first_of (search rules, cc, grind (arith, common_steps)) in
    both_ok c.begin.result _ _ (λ effect. Does image slaves event.Restart s effect (shown at c.begin.new.self)) c.begin.ensures.effect c.begin.ensures.ok
    (λ effect p q. does_by image slaves event.Restart s (Started s.committed.arch.pc) effect (begun x s) (shown at c.begin.new.self) p q (does_restart image slaves s x mode (sym c.in-Some.ensures.found)))
