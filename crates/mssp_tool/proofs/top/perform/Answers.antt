-- The words of `certify`.
use Rattle.std.proofs.Common.{Some, sym, subst}
use Rattle.command_line.specs.declared.commands.Command.{Command}
use Rattle.command_line.specs.Command.{shown}
use Rattle.speculative_runs.specs.Told.{Reads, Puts}
use Rattle.mssp_tool.specs.Top.{Cause}
use Rattle.mssp_tool.proofs.top.perform.Goals as goal

pub returns-in-Certify-clause-cause : goal.returns-in-Certify-clause-cause
returns-in-Certify-clause-cause g c =
    let store : Reads = record { told = g.S.Store.told c.args.store.now; before = g.S.Store.faults c.args.store.now; now = g.S.Store.faults c.certify.new.store; failed = g.S.Store.failed c.certify.new.store } in
    let out : Puts = record { told = g.O.Sink.told c.args.out.now; left = g.O.Sink.told c.certify.new.out; before = g.O.Sink.faults c.args.out.now; now = g.O.Sink.faults c.certify.new.out } in
    subst (λ (command : Command). Cause store (g.S.Store.told c.certify.new.store) (Some (shown command)) out c.certify.result) (sym c.in-Certify.is) (c.certify.ensures.cause, c.certify.ensures.files)
