-- The trial of the number.
use Rattle.std.proofs.Common.{ℕ, false, List, inl, inr, Err, refl, ap, subst}
use Rattle.profile_laws.specs.Profiles.{with_mark, steps}
use Rattle.profile_laws.specs.Tally.{profile_of}
use Rattle.profile_laws.proofs.Law.{tally_is_profile}
use Rattle.trial_report.specs.Trial.{budget, start_made}
use Rattle.speculative_runs.specs.Told.{Delivered}
use Rattle.mssp_tool.proofs.drawn.trial.Goals as goal

pub returns-in-Ok : goal.returns-in-Ok
returns-in-Ok g c =
    let done = c.in-Ok.ensures.done in
    inr (inr (inr (
      done.0,
      c.in-Ok.text.items,
      done.1,
      subst (λ (text : List ℕ). Delivered (record { told = g.O.Sink.told c.args.out.now; left = g.O.Sink.told c.deliver.new.out; before = g.O.Sink.faults c.args.out.now; now = g.O.Sink.faults c.deliver.new.out }) text c.deliver.result)
          c.deref.ensures.value c.deliver.ensures,
    )))

pub returns-in-Err-Wide : goal.returns-in-Err-Wide
returns-in-Err-Wide g c =
    let start = start_made c.args.trial.now.seed c.args.trial.now.size in
    let is = tally_is_profile (with_mark false) start (steps start budget) in
    inr (inl (profile_of (with_mark false) start (steps start budget), is, c.in-Err-Wide.ensures.wide (ap Err c.in-Err-Wide.field-0-is) (profile_of (with_mark false) start (steps start budget)) is, refl, refl))

pub returns-in-Err-Empty : goal.returns-in-Err-Empty
returns-in-Err-Empty g c =
    let none = c.in-Err-Empty.ensures.empty (ap Err c.in-Err-Empty.field-0-is) in
    inr (inr (inl (none.0, none.1, none.2, none.3, refl, refl)))
