-- A step more of the run.
use Rattle.std.proofs.Common.{◌≡◌, ◌+◌, suc, [], ap, sym, ◌∙◌, arith}
use Rattle.rv_semantics.specs.Calls.{step}
use Rattle.seq_machine.specs.Parts.{start_of}
use Rattle.fitting.specs.Fails.{state_at}
use Rattle.adapt_tests.proofs.tests.goes_on.Goals as goal

pub loop-machine-preserved : goal.loop-machine-preserved
loop-machine-preserved c =
    let i = c.loop-machine.invariant in
    let next : suc c.loop-machine.machine.position ≡ c.one.new.self.position = omega (arith, c.in_ok-one.ensures.position) in
    record {
      state = c.in_ok-one.ensures.ok ∙ ap step i.state ∙ ap (state_at (start_of c.args.p.now [])) next;
      within = omega (arith, c.in_ok-one.ensures.position, c.loop-machine-test.true);
    }
