-- Step by step.
use Rattle.std.proofs.Common.{◌≡◌, ◌+◌, ◌≤◌, false, sym, subst, arith, rules}
use Rattle.cells.specs.Run.{is_over}
use Rattle.seq_machine.specs.Parts.{start_of}
use Rattle.fitting.specs.Fails.{state_at}
use Rattle.profile_laws.specs.Profiles.{with_mark, IsWide}
use Rattle.profile_laws.specs.Tally.{kept}
use Rattle.profile_laws.proofs.Valid.{wide_stays}
use Rattle.profiler.specs.Recorded.{Recorded}
use Rattle.profiler.specs.declared.error.ProfilingErr.TheVariants.{Wide}
use Rattle.adapt.proofs.Runs.{going_before}
use Rattle.adapt.proofs.making.record_to.Goals as goal

pub one-requires-clause-running : goal.one-requires-clause-running
one-requires-clause-running c =
    let r = c.loop-alloc.recorder in
    let same = c.loop-alloc.invariant.same in
    going_before (start_of r.program r.input) r.position c.args.position (omega (arith, c.loop-alloc.invariant.within))
    (subst (λ (x : Recorded). is_over (state_at (start_of x.program x.input) c.args.position) ≡ false) (sym same) c.requires.running)

pub returns-in_err-one-clause-wide : goal.returns-in_err-one-clause-wide
returns-in_err-one-clause-wide c =
    let r = c.loop-alloc.recorder in
    let old = c.args.recorder.now in
    let same = c.loop-alloc.invariant.same in
    let below : r.position + 1 ≤ c.args.position = omega (arith, c.loop-alloc-test.true) in
    let wide : c.in_err-one.field-0.0 ≡ Wide → IsWide (kept (with_mark old.calls) (start_of old.program old.input) c.args.position).rows =
    λ e. subst (λ (x : Recorded). IsWide (kept (with_mark x.calls) (start_of x.program x.input) c.args.position).rows) same
    (wide_stays (with_mark r.calls) (start_of r.program r.input) (r.position + 1) c.args.position below (c.in_err-one.ensures.wide e)) in
    search rules
