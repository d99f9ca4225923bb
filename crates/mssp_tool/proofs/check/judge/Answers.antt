-- The line was put.
use Rattle.mssp_tool.proofs.Checks.{judged_put}
use Rattle.mssp_tool.proofs.check.judge.Goals as goal

pub returns-in-Ok : goal.returns-in-Ok
returns-in-Ok g c =
    judged_put c.args.image.now c.args.verdict
    (record { told = g.O.Sink.told c.args.out.now; left = g.O.Sink.told c.put_verdict.new.o; before = g.O.Sink.faults c.args.out.now; now = g.O.Sink.faults c.put_verdict.new.o })
    c.verdict_answer.result c.in-Ok.ensures.ok c.verdict_answer.ensures
