-- Nothing is kept at position 0.
use Rattle.std.proofs.Common.{◌<◌, ◌^◌, ◌∙◌, ap, sym, subst, rules}
use Rattle.cells.specs.Run.{State}
use Rattle.rv_semantics.specs.Start.{start}
use Rattle.seq_machine.specs.Parts.{start_of}
use Rattle.profile_laws.specs.Profiles.{with_mark}
use Rattle.profiler.specs.Counted.{IsCounted}
use Rattle.profiler.proofs.Counting.{counted_at_start}
use Rattle.profiler.proofs.recording.Recording.new.Goals as goal

-- where the run begins is what is kept of it
pub returns-clause-start : goal.returns-clause-start
returns-clause-start g c =
    let s = c.in_ok-machine.ensures.state in
    λ i. start (record {
      entry = (s i).arch.pc;
      mem = (c.in_ok-program.ensures ∙ ap (λ (s : State). s.arch.mem) s) i;
      first_break = (s i).env.first_break;
    }) (s i).env.input

pub returns-clause-input : goal.returns-clause-input
returns-clause-input g c = ap (λ (s : State). s.env.input) c.in_ok-machine.ensures.state

pub returns-clause-record : goal.returns-clause-record
returns-clause-record g c =
    let at = g.M.Memory.at in
    let m = c.in_ok-machine.machine in
    let small : m.arch.pc < 2 ^ 32 = search rules in
    let is = returns-clause-start g c in
    subst (λ (s : State). IsCounted at (with_mark c.args.calls) s m.position m c.in_ok-tally.tally) (sym is)
    (subst (λ k. IsCounted at (with_mark c.args.calls) (start_of c.args.p.now c.args.input.items) k m c.in_ok-tally.tally) (sym c.in_ok-machine.ensures.position)
    (counted_at_start at (with_mark c.args.calls) (start_of c.args.p.now c.args.input.items) m c.in_ok-tally.tally c.in_ok-machine.ensures.state c.in_ok-machine.ensures.position c.in_ok-tally.ensures.kept c.in_ok-tally.ensures.tally (m.aligned, small)))
