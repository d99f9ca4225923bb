-- The laws with the small machine put in. Its run ends within what is met, so there is always room.
use Rattle.std.proofs.Common.{inr, refl, arith}
use Rattle.speculation.specs.Engine.{fresh, run}
use Rattle.speculation.proofs.Keeps.{run_keeps, fresh_holds}
use Rattle.speculation_laws.proofs.Exchanged.{rises_in_rounds}
use Rattle.squash_laws.proofs.Safe.{happens_safe, run_tracks, fresh_tracks}
use Rattle.speculation_example.specs.Small.{small_setting}
use Rattle.speculation_example.specs.Laws.{small}
use Rattle.speculation_example.proofs.Meets.{is_known, master_spends, is_setting}
use Rattle.speculation_example.proofs.laws_apply.Goals as goal

pub returns-clause-sequential : goal.returns-clause-sequential
returns-clause-sequential c es = (run_keeps small is_known es (fresh small) (fresh_holds small)).is_seq

pub returns-clause-safe : goal.returns-clause-safe
returns-clause-safe c es e =
    happens_safe small_setting is_setting (run small es (fresh small)) e (inr (10, omega arith, refl))
    (run_keeps small is_known es (fresh small) (fresh_holds small))
    (run_tracks small_setting is_setting es (fresh small) (fresh_holds small) (fresh_tracks small_setting is_setting))

pub returns-clause-gains : goal.returns-clause-gains
returns-clause-gains c es going =
    let holds = run_keeps small is_known es (fresh small) (fresh_holds small) in
    rises_in_rounds small is_known master_spends (run small es (fresh small)) holds going
