-- From one position to the next, up to the budget or the end of the run.
use Rattle.std.proofs.Common.{◌≡◌, ◌∙◌, ◌^◌, ◌<◌, true, false, inl, inr, refl, sym, subst, arith, rules}
use Rattle.cells.specs.Run.{is_over}
use Rattle.seq_machine.specs.States.{state_of}
use Rattle.profile_laws.specs.Profiles.{steps}
use Rattle.load_values.specs.declared.error.FindErr.TheVariants.{Wide}
use Rattle.load_values.specs.Found.{IsWide}
use Rattle.load_values.specs.Counted.{IsCounted}
use Rattle.load_values.proofs.Counting.{counted_at_start, counted_next, wide_at_end, counted_all}
use Rattle.load_values.proofs.finding.find_all.Goals as goal

pub loop-machine-init : goal.loop-machine-init
loop-machine-init g c =
    let m = c.args.machine.now in
    let small : m.arch.pc < 2 ^ 32 = search rules in
    record {
      counted = subst (λ k. IsCounted g.M.Memory.at (state_of g.M.Memory.at m) k m c.args.loads.now) (sym c.requires.position)
          (counted_at_start g.M.Memory.at (state_of g.M.Memory.at m) m c.args.loads.now refl c.requires.position c.requires.found c.requires.count c.requires.few (m.aligned, small));
      program = refl;
      within = omega arith;
    }

pub loop-machine-preserved : goal.loop-machine-preserved
loop-machine-preserved g c =
    let going : is_over (state_of g.M.Memory.at c.loop-machine.machine) ≡ false = search rules in
    record {
      counted = counted_next g.M.Memory.at (state_of g.M.Memory.at c.args.machine.now) c.loop-machine.machine.position c.loop-machine.machine c.loop-machine.loads c.loop-machine.invariant.counted
          (g.M.Memory.at c.loop-machine.program) (c.loop-machine.invariant.program ∙ c.requires.program) c.step.new.machine c.step.new.loads going
          c.in_ok-step.ensures.state c.in_ok-step.ensures.position c.in_ok-step.ensures.here c.in_ok-step.ensures.elsewhere c.in_ok-step.ensures.count c.in_ok-step.ensures.few c.in_ok-step.ensures.pc;
      program = c.step.ensures.program ∙ c.loop-machine.invariant.program;
      within = omega (arith, c.in_ok-step.ensures.position, c.loop-machine-test.true);
    }

pub returns-in_err-step-clause-wide : goal.returns-in_err-step-clause-wide
returns-in_err-step-clause-wide g c =
    let going : is_over (state_of g.M.Memory.at c.loop-machine.machine) ≡ false = search rules in
    let at_end = wide_at_end g.M.Memory.at (state_of g.M.Memory.at c.args.machine.now) c.loop-machine.machine.position c.loop-machine.machine c.loop-machine.loads c.loop-machine.invariant.counted
    (g.M.Memory.at c.loop-machine.program) (c.loop-machine.invariant.program ∙ c.requires.program) c.args.budget c.loop-machine-test.true going in
    let wide : c.in_err-step.field-0.0 ≡ Wide → IsWide (state_of g.M.Memory.at c.args.machine.now) (steps (state_of g.M.Memory.at c.args.machine.now) c.args.budget) =
    λ e. at_end (c.in_err-step.ensures.wide e) in
    search rules

pub returns-else-is_none-clause-counted : goal.returns-else-is_none-clause-counted
returns-else-is_none-clause-counted g c =
    let over : is_over (state_of g.M.Memory.at c.loop-machine.machine) ≡ true = search rules in
    counted_all g.M.Memory.at (state_of g.M.Memory.at c.args.machine.now) c.loop-machine.machine.position c.loop-machine.machine c.loop-machine.loads c.loop-machine.invariant.counted
    (g.M.Memory.at c.loop-machine.program) (c.loop-machine.invariant.program ∙ c.requires.program) c.args.budget c.loop-machine.invariant.within (inr over)

pub returns-after-loop-machine-clause-counted : goal.returns-after-loop-machine-clause-counted
returns-after-loop-machine-clause-counted g c =
    counted_all g.M.Memory.at (state_of g.M.Memory.at c.args.machine.now) c.loop-machine.machine.position c.loop-machine.machine c.loop-machine.loads c.loop-machine.invariant.counted
    (g.M.Memory.at c.loop-machine.program) (c.loop-machine.invariant.program ∙ c.requires.program) c.args.budget c.loop-machine.invariant.within (inl c.loop-machine-test.false)
