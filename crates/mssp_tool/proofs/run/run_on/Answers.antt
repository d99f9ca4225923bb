-- The files that stay, and the cause behind a report.
use Rattle.std.proofs.Common.{ap}
use Rattle.std.specs.Prelude.{option_copied}
use Rattle.command_line.specs.Command.{shown_run}
use Rattle.seq_machine.specs.States.{state_of}
use Rattle.mssp_tool.proofs.Reports.{unchanged, reported_cause, reported_changes}
use Rattle.mssp_tool.proofs.run.run_on.Goals as goal

pub returns-in-Err-clause-files : goal.returns-in-Err-clause-files
returns-in-Err-clause-files g c = unchanged (g.S.Store.told c.args.store.now) (g.S.Store.told c.prepare.new.store) (shown_run c.args.run.now).report c.prepare.ensures.files

pub returns-in-Some-clause-files : goal.returns-in-Some-clause-files
returns-in-Some-clause-files g c =
    let r = shown_run c.args.run.now in
    let first = c.prepare.ensures in
    reported_changes r c.in-Some.name.now c.in-Ok.ready.image (g.S.Store.told c.args.store.now) (g.S.Store.told c.prepare.new.store) (g.S.Store.told c.run_reported.new.store) (g.S.Store.faults c.args.store.now) (g.S.Store.faults c.prepare.new.store) (g.S.Store.faults c.run_reported.new.store) (g.S.Store.failed c.run_reported.new.store)
    (record { told = g.O.Sink.told c.args.out.now; left = g.O.Sink.told c.run_reported.new.out; before = g.O.Sink.faults c.args.out.now; now = g.O.Sink.faults c.run_reported.new.out })
    c.run_reported.result (ap option_copied c.in-Some.is) first.files first.faults (state_of g.M.Memory.at c.in-Ok.ready.machine) c.in-Ok.ready.program c.run_reported.ensures

pub returns-in-Some-clause-cause : goal.returns-in-Some-clause-cause
returns-in-Some-clause-cause g c =
    let r = shown_run c.args.run.now in
    let first = c.prepare.ensures in
    let ready = c.in-Ok.ensures.answer.0 in
    reported_cause r c.in-Some.name.now c.in-Ok.ready.image (g.S.Store.told c.args.store.now) (g.S.Store.told c.prepare.new.store) (g.S.Store.told c.run_reported.new.store) (g.S.Store.faults c.args.store.now) (g.S.Store.faults c.prepare.new.store) (g.S.Store.faults c.run_reported.new.store) (g.S.Store.failed c.run_reported.new.store)
    (record { told = g.O.Sink.told c.args.out.now; left = g.O.Sink.told c.run_reported.new.out; before = g.O.Sink.faults c.args.out.now; now = g.O.Sink.faults c.run_reported.new.out })
    c.run_reported.result (ap option_copied c.in-Some.is) first.files first.faults ready.0 ready.1 ready.3 ready.4 ready.2 c.run_reported.ensures
