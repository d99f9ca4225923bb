-- Of no load a value is given.
use Rattle.std.proofs.lemmas.List.Elements.{All-nil}
use Rattle.std.proofs.lemmas.Result.{IfOk-weaker}
use Rattle.seq_machine.specs.Parts.{start_of}
use Rattle.fitting.specs.Fails.{IsLoaded}
use Rattle.distiller.proofs.distill.Goals as goal

pub returns-clause-holds : goal.returns-clause-holds
returns-clause-holds c =
    IfOk-weaker c.distill_same.result _ _
    (λ image holds calls input n is rare. holds calls input n is (All-nil (IsLoaded (start_of c.args.p.now input) n)) rare)
    c.distill_same.ensures.holds
