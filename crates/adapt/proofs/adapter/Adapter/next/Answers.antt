-- The recorder stands no further than it was asked for before, and what was too wide stays so.
use Rattle.std.proofs.Common.{◌≤◌, true, sym, subst, arith}
use Rattle.seq_machine.specs.Parts.{start_of}
use Rattle.profile_laws.specs.Profiles.{with_mark}
use Rattle.profile_laws.proofs.Valid.{wide_stays}
use Rattle.adapt.specs.Made.{Adapting}
use Rattle.adapt.proofs.adapter.Adapter.next.Goals as goal

pub make-requires-clause-behind : goal.make-requires-clause-behind
make-requires-clause-behind c =
    let a = c.self.inside in
    let was = c.self.invariant.0 in
    let below : a.asked ≤ c.args.position = subst (λ (x : Adapting). x.asked ≤ c.args.position) (sym c.self.view_is) c.requires.asked in
    record {
      calls = was.calls;
      within = omega (arith, was.within, below);
      too_wide = λ e. wide_stays (with_mark true) (start_of a.recorder.program a.recorder.input) a.asked c.args.position below (was.too_wide e);
    }
