-- By the number of the oldest task.
use Rattle.std.proofs.Common.{rules, ◌≡◌, ℕ, ◌+◌, ◌-◌, ◌<◌, ◌≤◌, length, get_or, Some, sym, ap, ◌∙◌, subst, arith}
use Rattle.std.specs.Prelude.{is_some}
use Rattle.slave.specs.Task.{shown as task_shown}
use Rattle.engine.proofs.Turns.{few_live, none_there, none_beyond, runs_there, done_there}
use Rattle.engine.proofs.stage.Stage.runner.Goals as goal

pub overflow_sub-oldest : goal.overflow_sub-oldest
overflow_sub-oldest g c =
    let s = c.args.self.now in
    let few = few_live (task_shown g.M.Memory.at) s.tasks.items s.next c.requires.numbers in
    let live : c.len-live.result ≡ length s.tasks.items = search rules in
    omega (arith, few, live)

pub returns-then-self-slave : goal.returns-then-self-slave
returns-then-self-slave g c =
    let s = c.args.self.now in
    let few = few_live (task_shown g.M.Memory.at) s.tasks.items s.next c.requires.numbers in
    let first : s.next - length s.tasks.items + length s.tasks.items ≡ s.next = omega (arith, few) in
    sym (none_beyond (task_shown g.M.Memory.at) s.slaves c.args.slave s.next (s.next - length s.tasks.items) s.tasks.items c.requires.few c.requires.numbers first c.if-self-slave.true)

pub returns-then-live-place : goal.returns-then-live-place
returns-then-live-place g c =
    let s = c.args.self.now in
    let few = few_live (task_shown g.M.Memory.at) s.tasks.items s.next c.requires.numbers in
    let live : c.len-live.result ≡ length s.tasks.items = search rules in
    let first : s.next - c.len-live.result + length s.tasks.items ≡ s.next = omega (arith, few, live) in
    let far : length s.tasks.items ≤ c.place_of-place.result = search rules in
    sym (none_there (task_shown g.M.Memory.at) s.slaves c.args.slave s.next (s.next - c.len-live.result) s.tasks.items c.requires.few c.requires.numbers first c.if-self-slave.false
    (subst (λ (n : ℕ). length s.tasks.items ≤ n) c.place_of-place.ensures far))

pub returns-in-None : goal.returns-in-None
returns-in-None g c =
    let s = c.args.self.now in
    let few = few_live (task_shown g.M.Memory.at) s.tasks.items s.next c.requires.numbers in
    let live : c.len-live.result ≡ length s.tasks.items = search rules in
    let first : s.next - c.len-live.result + length s.tasks.items ≡ s.next = omega (arith, few, live) in
    let within : c.place_of-place.result < length s.tasks.items = search rules in
    let place = c.place_of-place.ensures in
    let task = c.index.result.now in
    ap (λ (n : ℕ). Some n) place
    ∙ sym (runs_there (task_shown g.M.Memory.at) s.slaves c.args.slave s.next (s.next - c.len-live.result) s.tasks.items c.requires.few c.requires.numbers first c.if-self-slave.false
    task (subst (λ (n : ℕ). n < length s.tasks.items) place within) (c.index.ensures ∙ ap (λ (n : ℕ). get_or s.tasks.items n task) place) (ap is_some (sym c.ending.ensures ∙ c.in-None.is)))

pub returns-in-Some : goal.returns-in-Some
returns-in-Some g c =
    let s = c.args.self.now in
    let few = few_live (task_shown g.M.Memory.at) s.tasks.items s.next c.requires.numbers in
    let live : c.len-live.result ≡ length s.tasks.items = search rules in
    let first : s.next - c.len-live.result + length s.tasks.items ≡ s.next = omega (arith, few, live) in
    let within : c.place_of-place.result < length s.tasks.items = search rules in
    let place = c.place_of-place.ensures in
    let task = c.index.result.now in
    sym (done_there (task_shown g.M.Memory.at) s.slaves c.args.slave s.next (s.next - c.len-live.result) s.tasks.items c.requires.few c.requires.numbers first c.if-self-slave.false
    task (subst (λ (n : ℕ). n < length s.tasks.items) place within) (c.index.ensures ∙ ap (λ (n : ℕ). get_or s.tasks.items n task) place) (ap is_some (sym c.ending.ensures ∙ c.in-Some.is)))
