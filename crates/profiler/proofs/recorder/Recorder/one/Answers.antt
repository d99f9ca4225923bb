-- What is recorded is the run of the program and the input.
use Rattle.std.proofs.Common.{◌+◌, subst}
use Rattle.cells.specs.Run.{State}
use Rattle.seq_machine.specs.Parts.{start_of}
use Rattle.profile_laws.specs.Profiles.{with_mark, IsWide}
use Rattle.profile_laws.specs.Tally.{kept}
use Rattle.profiler.specs.Recorded.{Recorded}
use Rattle.profiler.proofs.Results.{on_err}
use Rattle.profiler.proofs.recorder.Recorder.one.Goals as goal

pub returns-clause-wide : goal.returns-clause-wide
returns-clause-wide c =
    let r = c.self.inside.recording in
    on_err c.one.result c.one.ensures.wide
    (λ e h is.
    subst (λ (x : Recorded). IsWide (kept (with_mark x.calls) (start_of x.program x.input) (x.position + 1)).rows) c.self.view_is
    (subst (λ (s : State). IsWide (kept (with_mark r.calls) s (r.machine.position + 1)).rows) c.self.invariant.1 (h is)))
