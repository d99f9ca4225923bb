-- The slaves stand after six events, and Commit stands last; the place behind is one more, or the first one again.
use Rattle.std.proofs.Common.{◌≡◌, ℕ, ◌+◌, ◌-◌, ◌%◌, Some, subst, arith}
use Rattle.std.specs.Prelude.{slice_get}
use Rattle.speculation.specs.Rounds.{round}
use Rattle.speculation.specs.declared.Event.TheVariants.{Slave}
use Rattle.event_list.proofs.Places.{slave_at, commit_at}
use Rattle.speculative_runs.proofs.Turns.{within, around}
use Rattle.speculative_runs.proofs.speculating.turn.Goals as goal

pub returns-then-slave-slaves-clause-event : goal.returns-then-slave-slaves-clause-event
returns-then-slave-slaves-clause-event c =
    let e : c.args.place - 6 ≡ (c.args.place + 250) % 256 = omega arith in
    subst (λ (n : ℕ). slice_get (round c.args.slaves) c.args.place ≡ Some (Slave n)) e (slave_at c.args.slaves c.args.place (omega arith) (omega arith))

pub returns-then-slave-slaves-clause-next : goal.returns-then-slave-slaves-clause-next
returns-then-slave-slaves-clause-next c k at = within (c.args.slaves + 7) k c.args.place at (omega arith)

pub returns-in_default-clause-event : goal.returns-in_default-clause-event
returns-in_default-clause-event c = commit_at c.args.slaves c.args.place (omega arith)

pub returns-in_default-clause-next : goal.returns-in_default-clause-next
returns-in_default-clause-next c k at = around (c.args.slaves + 7) k c.args.place at (omega arith)
