-- What was counted is the profile, and is valid.
use Rattle.std.proofs.Common.{◌≡◌, refl, subst}
use Rattle.std.proofs.lemmas.Result.{err_from_is_err_and}
use Rattle.cells.specs.Run.{State}
use Rattle.seq_machine.specs.Parts.{start_of}
use Rattle.profile_data.specs.Profile.{Profiled}
use Rattle.profile_laws.specs.Profiles.{steps, with_mark, IsProfileOf, IsWide}
use Rattle.profile_laws.specs.Tally.{kept}
use Rattle.profiler.specs.declared.error.ProfilingErr.TheVariants.{Wide}
use Rattle.profiler.proofs.Made.{wide_profile}
use Rattle.profiler.proofs.profiling.profile_on.Goals as goal

pub returns-in_err-count_all-clause-wide : goal.returns-in_err-count_all-clause-wide
returns-in_err-count_all-clause-wide g c =
    let begin = start_of c.args.p.now c.args.input.items in
    let made = c.in_ok-recording.ensures in
    let wide : c.in_err-count_all.field-0.0 ≡ Wide → (f : Profiled) → IsProfileOf (with_mark c.args.calls) begin (steps begin c.args.budget) f → IsWide f.rows =
    λ e f is. wide_profile (with_mark c.args.calls) begin begin c.args.budget refl
    (subst (λ b. IsWide (kept (with_mark b) begin (steps begin c.args.budget)).rows) made.calls
    (subst (λ (s : State). IsWide (kept (with_mark c.in_ok-recording.recording.calls) s (steps s c.args.budget)).rows) made.start (c.in_err-count_all.ensures.wide e))) f is in
    let p = err_from_is_err_and c.from_residual-in_err-count_all.result c.from_residual-in_err-count_all.ensures.1 in
    rw (p.1, p.2) wide
