-- The schedule that is given is the one that was told apart.
use Rattle.std.proofs.Common.{sym, subst}
use Rattle.std.specs.Prelude.{OnOk, IfErr}
use Rattle.engine.specs.Whole.{model_of, world_of}
use Rattle.speculative_runs.specs.declared.speculating.Schedule.{Schedule}
use Rattle.speculative_runs.specs.Speculated.{models_of, Came, CutShort}
use Rattle.speculative_runs.proofs.speculating.advance.Goals as goal

pub returns-in-Rounds-clause-ok : goal.returns-in-Rounds-clause-ok
returns-in-Rounds-clause-ok g c = subst (λ (s : Schedule). OnOk c.advance_by.result (Came (world_of g.M.Memory.at c.args.pair.now.engine) (models_of g.M.Memory.at s c.args.pair.now.engine)
    c.args.budget (model_of g.M.Memory.at c.advance_by.new.pair.engine) (g.O.Sink.told c.args.out.now) (g.O.Sink.told c.advance_by.new.out))) (sym c.in-Rounds.is) c.advance_by.ensures.ok

pub returns-in-Rounds-clause-err : goal.returns-in-Rounds-clause-err
returns-in-Rounds-clause-err g c = subst (λ (s : Schedule). IfErr c.advance_by.result (CutShort (world_of g.M.Memory.at c.args.pair.now.engine) (models_of g.M.Memory.at s c.args.pair.now.engine)
    c.args.budget (record { told = g.O.Sink.told c.args.out.now; left = g.O.Sink.told c.advance_by.new.out; before = g.O.Sink.faults c.args.out.now; now = g.O.Sink.faults c.advance_by.new.out })))
    (sym c.in-Rounds.is) c.advance_by.ensures.err

pub returns-in-Alone-clause-ok : goal.returns-in-Alone-clause-ok
returns-in-Alone-clause-ok g c = subst (λ (s : Schedule). OnOk c.advance_by-in-Alone.result (Came (world_of g.M.Memory.at c.args.pair.now.engine) (models_of g.M.Memory.at s c.args.pair.now.engine)
    c.args.budget (model_of g.M.Memory.at c.advance_by-in-Alone.new.pair.engine) (g.O.Sink.told c.args.out.now) (g.O.Sink.told c.advance_by-in-Alone.new.out))) (sym c.in-Alone.is) c.advance_by-in-Alone.ensures.ok

pub returns-in-Alone-clause-err : goal.returns-in-Alone-clause-err
returns-in-Alone-clause-err g c = subst (λ (s : Schedule). IfErr c.advance_by-in-Alone.result (CutShort (world_of g.M.Memory.at c.args.pair.now.engine) (models_of g.M.Memory.at s c.args.pair.now.engine)
    c.args.budget (record { told = g.O.Sink.told c.args.out.now; left = g.O.Sink.told c.advance_by-in-Alone.new.out; before = g.O.Sink.faults c.args.out.now; now = g.O.Sink.faults c.advance_by-in-Alone.new.out })))
    (sym c.in-Alone.is) c.advance_by-in-Alone.ensures.err
