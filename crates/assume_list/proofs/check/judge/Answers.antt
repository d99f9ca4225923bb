-- The verdict, by what the pass and the wait came to.
use Rattle.std.proofs.Common.{◌-◌, ◌∙◌, min, refl, sym, ap, subst}
use Rattle.seq_machine.specs.States.{state_of}
use Rattle.assume_list.specs.declared.passing.Passed.{Passed}
use Rattle.assume_list.specs.Shown.{shown}
use Rattle.assume_list.specs.Passes.{bound_of, HasPassed, IsThrough}
use Rattle.assume_list.specs.Verdicts.{IsVerdict}
use Rattle.assume_list.proofs.Judged.{IsBound, told_bound, late_verdict, failed_verdict, through_verdict}
use Rattle.assume_list.proofs.check.judge.Goals as goal

pub returns-in-Late-clause-verdict : goal.returns-in-Late-clause-verdict
returns-in-Late-clause-verdict g c =
    let at = g.M.Memory.at in
    let image = c.args.image.now in
    let start = state_of at c.args.watch.now.machine in
    let told : IsBound image c.args.budget c.bound_of-bound.result c.unwrap_or-span.result =
    subst (λ b. IsBound image c.args.budget b c.unwrap_or-span.result) (sym c.bound_of-bound.ensures)
    (subst (λ n. IsBound image c.args.budget (bound_of c.span_of-span.result c.args.budget) n) (sym c.unwrap_or-span.ensures) (told_bound image c.args.budget c.span_of-span.result c.span_of-span.ensures)) in
    let m = c.pass.new.watch.machine in
    let ws = (shown c.pass.new.waits) in
    let Has : Passed → Type 0 = (λ p. HasPassed start image c.args.budget c.bound_of-bound.result c.unwrap_or-span.result m.position (state_of at m) ws p) in
    late_verdict start image c.requires.image c.args.budget c.bound_of-bound.result c.unwrap_or-span.result told c.in-Late.position (subst Has c.in-Late.is c.in_ok-passed.ensures.passed)

pub returns-in-Failed-clause-verdict : goal.returns-in-Failed-clause-verdict
returns-in-Failed-clause-verdict g c =
    let at = g.M.Memory.at in
    let image = c.args.image.now in
    let start = state_of at c.args.watch.now.machine in
    let told : IsBound image c.args.budget c.bound_of-bound.result c.unwrap_or-span.result =
    subst (λ b. IsBound image c.args.budget b c.unwrap_or-span.result) (sym c.bound_of-bound.ensures)
    (subst (λ n. IsBound image c.args.budget (bound_of c.span_of-span.result c.args.budget) n) (sym c.unwrap_or-span.ensures) (told_bound image c.args.budget c.span_of-span.result c.span_of-span.ensures)) in
    let m = c.pass.new.watch.machine in
    let ws = (shown c.pass.new.waits) in
    let Has : Passed → Type 0 = (λ p. HasPassed start image c.args.budget c.bound_of-bound.result c.unwrap_or-span.result m.position (state_of at m) ws p) in
    let place = m.position - 1 in
    let asked = c.min-until.ensures ∙ ap (min c.bound_of-bound.result) c.asked_below.ensures in
    subst (λ v. IsVerdict start image c.args.budget v) (sym c.or_late.ensures)
    (failed_verdict start image c.requires.image c.args.budget c.bound_of-bound.result c.unwrap_or-span.result told m.position (state_of at m) ws c.in_ok-late-in-Failed.late c.in-Failed.which
    place c.min-until.result (subst Has c.in-Failed.is c.in_ok-passed.ensures.passed) refl asked (c.in_ok-late-in-Failed.ensures.awaited start))

pub returns-clause-verdict : goal.returns-clause-verdict
returns-clause-verdict g c =
    let at = g.M.Memory.at in
    let image = c.args.image.now in
    let start = state_of at c.args.watch.now.machine in
    let told : IsBound image c.args.budget c.bound_of-bound.result c.unwrap_or-span.result =
    subst (λ b. IsBound image c.args.budget b c.unwrap_or-span.result) (sym c.bound_of-bound.ensures)
    (subst (λ n. IsBound image c.args.budget (bound_of c.span_of-span.result c.args.budget) n) (sym c.unwrap_or-span.ensures) (told_bound image c.args.budget c.span_of-span.result c.span_of-span.ensures)) in
    let m = c.pass.new.watch.machine in
    let ws = (shown c.pass.new.waits) in
    let Has : Passed → Type 0 = (λ p. HasPassed start image c.args.budget c.bound_of-bound.result c.unwrap_or-span.result m.position (state_of at m) ws p) in
    let t : IsThrough start image c.args.budget c.bound_of-bound.result m.position (state_of at m) ws = subst Has c.in-Through.is c.in_ok-passed.ensures.passed in
    subst (λ v. IsVerdict start image c.args.budget v) (sym c.or_late-in-Through.ensures)
    (through_verdict start image c.requires.image c.args.budget c.bound_of-bound.result c.unwrap_or-span.result told m.position (state_of at m) ws c.in_ok-late-in-Through.late t
    (c.in_ok-late-in-Through.ensures.awaited start t.reached))
