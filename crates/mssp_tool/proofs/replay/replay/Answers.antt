-- By what the engine's events and their lines came to.
use Rattle.std.proofs.Common.{ap, Ok, Err, refl, inl, ◌∙◌}
use Rattle.outside.specs.declared.SinkErr.TheVariants as put
use Rattle.event_list.specs.Reading.{written_out}
use Rattle.command_line.specs.Command.{shown_replay}
use Rattle.speculative_runs.specs.Told.{Reads}
use Rattle.mssp_tool.proofs.Replays.{replayed}
use Rattle.mssp_tool.proofs.replay.replay.Goals as goal

pub returns-in-Err-clause-cause : goal.returns-in-Err-clause-cause
returns-in-Err-clause-cause g c = inl (c.in-Err.ensures.answer, refl)

pub returns-in-Ok-put_replay-clause-cause : goal.returns-in-Ok-put_replay-clause-cause
returns-in-Ok-put_replay-clause-cause g c =
    let store : Reads = record { told = g.S.Store.told c.args.store.now; before = g.S.Store.faults c.args.store.now; now = g.S.Store.faults c.prepare.new.store; failed = g.S.Store.failed c.prepare.new.store } in
    replayed store (shown_replay c.args.replay.now) c.in-Ok.ready.list.items (Ok tt) c.in-Ok.ensures.answer.0 c.args.replay.now.some c.put_replay.ensures (ap written_out c.deref.ensures.value) c.in-Ok-put_replay.is

pub returns-in-Err-Failed-clause-cause : goal.returns-in-Err-Failed-clause-cause
returns-in-Err-Failed-clause-cause g c =
    let store : Reads = record { told = g.S.Store.told c.args.store.now; before = g.S.Store.faults c.args.store.now; now = g.S.Store.faults c.prepare.new.store; failed = g.S.Store.failed c.prepare.new.store } in
    replayed store (shown_replay c.args.replay.now) c.in-Ok.ready.list.items (Err put.Failed) c.in-Ok.ensures.answer.0 c.args.replay.now.some c.put_replay.ensures (ap written_out c.deref.ensures.value) (c.in-Err-Failed.is ∙ ap Err c.in-Err-Failed.field-0-is)

pub returns-clause-cause : goal.returns-clause-cause
returns-clause-cause g c =
    let store : Reads = record { told = g.S.Store.told c.args.store.now; before = g.S.Store.faults c.args.store.now; now = g.S.Store.faults c.prepare.new.store; failed = g.S.Store.failed c.prepare.new.store } in
    replayed store (shown_replay c.args.replay.now) c.in-Ok.ready.list.items (Err put.Memory) c.in-Ok.ensures.answer.0 c.args.replay.now.some c.put_replay.ensures (ap written_out c.deref.ensures.value) (c.in-Err-Memory.is ∙ ap Err c.in-Err-Memory.field-0-is)
