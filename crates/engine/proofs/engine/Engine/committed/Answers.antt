-- By what the engine keeps.
use Rattle.engine.specs.Whole.{world_of, model_of}
use Rattle.engine.proofs.Kept.{sequential}
use Rattle.engine.proofs.engine.Engine.committed.Goals as goal

pub returns-clause-sequential : goal.returns-clause-sequential
returns-clause-sequential g c =
    let at = g.M.Memory.at in
    sequential (world_of at c.args.self.now) (model_of at c.args.self.now) c.args.self.now.holds
