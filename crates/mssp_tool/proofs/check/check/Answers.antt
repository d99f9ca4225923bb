-- The verdict on the run of the files that were read.
use Rattle.command_line.specs.Command.{shown_walk}
use Rattle.seq_machine.specs.Parts.{start_of}
use Rattle.mssp_tool.proofs.Checks.{of_list, checked_cause}
use Rattle.mssp_tool.proofs.check.check.Goals as goal

pub judge-requires : goal.judge-requires
judge-requires g c =
    of_list (start_of c.in-Ok.subject.program c.in-Ok.subject.input.items) c.in-Ok.subject.image c.args.walk.now.budget c.in-Ok-check_run.verdict c.in-Ok-check_run.ensures

pub returns-in-Ok-check_run-clause-cause : goal.returns-in-Ok-check_run-clause-cause
returns-in-Ok-check_run-clause-cause g c =
    checked_cause (shown_walk c.args.walk.now)
    (record { told = g.S.Store.told c.args.store.now; before = g.S.Store.faults c.args.store.now; now = g.S.Store.faults c.subject_in.new.store; failed = g.S.Store.failed c.subject_in.new.store })
    (record { told = g.O.Sink.told c.args.out.now; left = g.O.Sink.told c.judge.new.out; before = g.O.Sink.faults c.args.out.now; now = g.O.Sink.faults c.judge.new.out })
    c.in-Ok.subject.program c.in-Ok.subject.image c.in-Ok.subject.input.items c.in-Ok-check_run.verdict c.judge.result c.in-Ok.ensures.answer.2 c.in-Ok-check_run.ensures c.judge.ensures
