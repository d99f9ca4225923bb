-- From one position to the next, up to the budget or the end of the run.
use Rattle.std.proofs.Common.{◌≡◌, ◌∙◌, true, false, inl, inr, refl, subst, arith, rules}
use Rattle.cells.specs.Run.{State, is_over}
use Rattle.seq_machine.specs.States.{state_of}
use Rattle.profile_laws.specs.Profiles.{steps, with_mark, IsWide}
use Rattle.profile_laws.specs.Tally.{kept}
use Rattle.profiler.specs.declared.error.ProfilingErr.TheVariants.{Wide}
use Rattle.profiler.specs.Counted.{began}
use Rattle.profiler.proofs.Counting.{wide_at_end, counted_all}
use Rattle.profiler.proofs.profiling.count_all.Goals as goal

pub loop-recording-init : goal.loop-recording-init
loop-recording-init g c = record { recorded = c.requires.record; start = refl; calls = refl; within = omega arith }

pub loop-recording-preserved : goal.loop-recording-preserved
loop-recording-preserved g c = record {
  recorded = c.one.ensures.record;
  start = c.one.ensures.start ∙ c.loop-recording.invariant.start;
  calls = c.one.ensures.calls ∙ c.loop-recording.invariant.calls;
  within = omega (arith, c.in_ok-one.ensures.steps, c.loop-recording-test.true);
}

pub returns-in_err-one-clause-wide : goal.returns-in_err-one-clause-wide
returns-in_err-one-clause-wide g c =
    let at = g.M.Memory.at in
    let r = c.loop-recording.recording in
    let was = c.args.recording.now in
    let now = c.loop-recording.invariant in
    let going : is_over (state_of at r.machine) ≡ false = search rules in
    let wide : c.in_err-one.field-0.0 ≡ Wide → IsWide (kept (with_mark was.calls) (began at was) (steps (began at was) c.args.budget)).rows =
    λ e. subst (λ b. IsWide (kept (with_mark b) (began at was) (steps (began at was) c.args.budget)).rows) now.calls
    (subst (λ (s : State). IsWide (kept (with_mark r.calls) s (steps s c.args.budget)).rows) now.start
    (wide_at_end at (with_mark r.calls) (began at r) r.machine.position r.machine r.tally now.recorded (at r.program) refl c.args.budget c.loop-recording-test.true going (c.in_err-one.ensures.wide e))) in
    search rules

pub returns-else-is_none-clause-steps : goal.returns-else-is_none-clause-steps
returns-else-is_none-clause-steps g c =
    let at = g.M.Memory.at in
    let r = c.loop-recording.recording in
    let now = c.loop-recording.invariant in
    let over : is_over (state_of at r.machine) ≡ true = search rules in
    subst (λ (s : State). r.machine.position ≡ steps s c.args.budget) now.start
    (counted_all at (with_mark r.calls) (began at r) r.machine.position r.machine r.tally now.recorded (at r.program) refl c.args.budget now.within (inr over)).position

pub returns-after-loop-recording-clause-steps : goal.returns-after-loop-recording-clause-steps
returns-after-loop-recording-clause-steps g c =
    let at = g.M.Memory.at in
    let r = c.loop-recording.recording in
    let now = c.loop-recording.invariant in
    subst (λ (s : State). r.machine.position ≡ steps s c.args.budget) now.start
    (counted_all at (with_mark r.calls) (began at r) r.machine.position r.machine r.tally now.recorded (at r.program) refl c.args.budget now.within (inl c.loop-recording-test.false)).position
