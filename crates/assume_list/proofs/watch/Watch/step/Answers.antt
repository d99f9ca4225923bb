-- What is seen of a position, and the state after it.
use Rattle.std.proofs.Common.{List, ◌≡◌, ◌+◌, ℕ, refl, ap, ◌∙◌}
use Rattle.cells.specs.Bytes.{number}
use Rattle.cells.specs.Run.{State}
use Rattle.rv_semantics.specs.Calls.{step as next_state}
use Rattle.fitting.specs.Claims.{among}
use Rattle.fitting.specs.Fits.{is_analysed}
use Rattle.seq_machine.specs.States.{state_of}
use Rattle.access_trace.specs.Shadows.{mark_at}
use Rattle.assume_list.proofs.Looked.{not_over, stop_seen, marks_seen, looked}
use Rattle.assume_list.proofs.watch.Watch.step.Goals as goal

pub returns-clause-state : goal.returns-clause-state
returns-clause-state g c = c.in_ok-one.ensures.ok ∙ ap next_state c.look_ahead-coming.ensures.state

pub returns-clause-stops : goal.returns-clause-stops
returns-clause-stops g c =
    let s = state_of g.M.Memory.at c.args.self.now.machine in
    stop_seen c.args.image.now s (state_of g.M.Memory.at c.one.new.self) c.look_ahead-coming.result.calls c.stops.result (not_over c.args.self.now.machine.end c.requires.running)
    (c.in_ok-one.ensures.ok ∙ ap next_state c.look_ahead-coming.ensures.state) c.look_ahead-coming.ensures.calls c.stops.ensures

pub returns-clause-first : goal.returns-clause-first
returns-clause-first g c =
    let s = state_of g.M.Memory.at c.args.self.now.machine in
    let t = state_of g.M.Memory.at c.one.new.self in
    let stepped : t ≡ next_state s = c.in_ok-one.ensures.ok ∙ ap next_state c.look_ahead-coming.ensures.state in
    let seen = c.look_ahead-coming.ensures in
    let next : t.arch.pc ≡ (next_state s).arch.pc = ap (λ (u : State). u.arch.pc) stepped in
    let marks = mark_at g.M.Memory.at c.args.self.now.marks in
    looked c.args.image.now (number 4 s.arch.pc (g.M.Memory.at c.args.self.now.program)) s marks _ c.deref.result.now c.first_failing.result c.first_failing.ensures
    (record {
      pc = refl;
      stops = stop_seen c.args.image.now s t c.look_ahead-coming.result.calls c.stops.result (not_over c.args.self.now.machine.end c.requires.running) stepped c.look_ahead-coming.ensures.calls c.stops.ensures;
      side = c.look_ahead-coming.ensures.side;
      jumps = c.look_ahead-coming.ensures.jumps;
      changed = c.look_ahead-coming.ensures.changed;
      analysed = c.requires.analysed;
      next = next;
      stays = c.is_noted.ensures.noted ∙ ap (is_analysed c.args.image.now) next;
      load = c.look_ahead-coming.ensures.load;
    })
    (λ at. ap (λ (ms : List ℕ). among ms (at + 1)) c.deref.ensures.value ∙ marks_seen c.args.image.now s marks c.read_marks.new.read.items _ _ c.look_ahead-coming.ensures.loads c.in_ok-read_marks.ensures at)
