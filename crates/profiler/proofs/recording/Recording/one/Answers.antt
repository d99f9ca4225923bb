-- From one position of the run to the next, or to none.
use Rattle.std.proofs.Common.{◌≡◌, ◌+◌, ◌∙◌, suc, false, ap, sym, subst, refl, arith, rules}
use Rattle.cells.specs.Run.{State, is_over}
use Rattle.rv_semantics.specs.Start.{start}
use Rattle.seq_machine.specs.States.{state_of}
use Rattle.profile_laws.specs.Profiles.{with_mark, IsWide}
use Rattle.profile_laws.specs.Tally.{Kept, kept}
use Rattle.profiler.specs.Counted.{began, IsCounted}
use Rattle.profiler.proofs.Results.{on_ok, on_err, by_result, got_ok, got_err}
use Rattle.profiler.proofs.Counting.{room, counted_next, counted_stays, kept_next}
use Rattle.profiler.proofs.Begun.{Alike, step_alike}
use Rattle.profiler.proofs.recording.Recording.one.Goals as goal

pub step-requires-clause-tally : goal.step-requires-clause-tally
step-requires-clause-tally g c = c.requires.record.tallied

pub step-requires-clause-room : goal.step-requires-clause-room
step-requires-clause-room g c =
    let r = c.args.self.now in
    room g.M.Memory.at (with_mark r.calls) (began g.M.Memory.at r) r.machine.position r.machine r.tally c.requires.record (g.M.Memory.at r.program) refl (omega (arith, c.requires.steps))

-- the machine keeps the input and the first break
pub returns-clause-start : goal.returns-clause-start
returns-clause-start g c =
    let r = c.args.self.now in
    let at = g.M.Memory.at in
    let s = state_of at r.machine in
    let t = state_of at c.step.new.machine in
    let alike : Alike s t = by_result c.step.result
    (λ x e. subst (Alike s) (sym (got_ok c.step.result x e c.step.ensures.state)) (step_alike s))
    (λ x e. subst (Alike s) (sym (got_err c.step.result x e c.step.ensures.same_state)) (record { input = refl; first_break = refl })) in
    λ i. start (record { entry = r.entry; mem = c.step.ensures.program i; first_break = alike.first_break i }) (alike.input i)

pub returns-clause-input : goal.returns-clause-input
returns-clause-input g c = ap (λ (s : State). s.env.input) (returns-clause-start g c)

pub returns-clause-record : goal.returns-clause-record
returns-clause-record g c =
    let r = c.args.self.now in
    let at = g.M.Memory.at in
    let going : is_over (state_of at r.machine) ≡ false = search rules in
    let n = c.step.new.machine in
    let u = c.step.new.tally in
    let start = began at r in
    let prints = with_mark r.calls in
    subst (λ (s : State). IsCounted at prints s n.position n u) (sym (returns-clause-start g c))
    (by_result c.step.result
    (λ x e. counted_next at prints start r.machine.position r.machine r.tally c.requires.record (at r.program) refl n u going
    (got_ok c.step.result x e c.step.ensures.state) (got_ok c.step.result x e c.step.ensures.position) (got_ok c.step.result x e c.step.ensures.kept) c.step.ensures.tally (got_ok c.step.result x e c.step.ensures.pc))
    (λ x e. counted_stays at prints start r.machine.position r.machine r.tally c.requires.record (at r.program) refl n u
    (got_err c.step.result x e c.step.ensures.same_state) (got_err c.step.result x e c.step.ensures.same_position) (got_err c.step.result x e c.step.ensures.same_kept) c.step.ensures.tally))

pub returns-clause-wide : goal.returns-clause-wide
returns-clause-wide g c =
    let r = c.args.self.now in
    let at = g.M.Memory.at in
    let next : suc r.machine.position ≡ r.machine.position + 1 = omega arith in
    let same = kept_next at (with_mark r.calls) (began at r) r.machine.position r.machine r.tally c.requires.record (at r.program) refl ∙ ap (kept (with_mark r.calls) (began at r)) next in
    on_err c.step.result c.step.ensures.wide (λ e wide is. subst (λ (x : Kept). IsWide x.rows) same (wide is))

pub returns-clause-narrow : goal.returns-clause-narrow
returns-clause-narrow g c =
    let r = c.args.self.now in
    let at = g.M.Memory.at in
    let next : suc r.machine.position ≡ r.machine.position + 1 = omega arith in
    let same = kept_next at (with_mark r.calls) (began at r) r.machine.position r.machine r.tally c.requires.record (at r.program) refl ∙ ap (kept (with_mark r.calls) (began at r)) next in
    on_ok c.step.result c.step.ensures.kept (λ e h. c.step.ensures.tally.few (subst (λ (x : Kept). IsWide x.rows) (sym (e ∙ same)) h))
