-- From what is tracked before the event, by the engine's own clauses.
use Rattle.engine.specs.Whole.{start_of, image_of, slaves_of, model_of}
use Rattle.nosquash.proofs.Tracked.{tracked_after, safe_after, broken_after}
use Rattle.nosquash.proofs.Checked.{checked_after}
use Rattle.nosquash.proofs.pair.Pair.event.Goals as goal

pub invariant_of-self : goal.invariant_of-self
invariant_of-self g c =
    let p = c.args.self.now in
    let at = g.M.Memory.at in
    let h = c.event.ensures in
    record {
      tracks = tracked_after (start_of at p.engine) (start_of at c.event.new.self) (image_of p.engine) (image_of c.event.new.self) (slaves_of p.engine) (slaves_of c.event.new.self)
          (model_of at p.engine) (model_of at c.event.new.self) c.args.e c.event.result
          p.engine.image p.engine.some p.engine.holds p.tracks h.start h.image h.slaves h.ok h.err;
    }

pub returns-clause-safe : goal.returns-clause-safe
returns-clause-safe g c =
    let p = c.args.self.now in
    let at = g.M.Memory.at in
    safe_after (start_of at p.engine) (image_of p.engine) (slaves_of p.engine) (model_of at p.engine) (model_of at c.event.new.self) c.args.e c.event.result
    p.engine.image p.engine.some p.engine.holds p.tracks c.event.ensures.ok

pub returns-clause-broken : goal.returns-clause-broken
returns-clause-broken g c =
    let p = c.args.self.now in
    let at = g.M.Memory.at in
    broken_after (start_of at p.engine) (image_of p.engine) (slaves_of p.engine) (model_of at p.engine) (model_of at c.event.new.self) c.args.e c.event.result
    p.engine.image p.engine.some p.engine.holds p.tracks c.event.ensures.ok

pub returns-clause-checked : goal.returns-clause-checked
returns-clause-checked g c =
    let p = c.args.self.now in
    let at = g.M.Memory.at in
    checked_after (start_of at p.engine) (image_of p.engine) (model_of at p.engine).position c.event.result
    (safe_after (start_of at p.engine) (image_of p.engine) (slaves_of p.engine) (model_of at p.engine) (model_of at c.event.new.self) c.args.e c.event.result
    p.engine.image p.engine.some p.engine.holds p.tracks c.event.ensures.ok)
