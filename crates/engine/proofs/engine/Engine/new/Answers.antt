-- An engine that is made has the model of a run's start.
use Rattle.std.proofs.Common.{◌≡◌, ℕ, List, [], sym, ap, subst}
use Rattle.cells.specs.Run.{State}
use Rattle.speculation.specs.Kept.{Holds}
use Rattle.speculation.specs.Engine.{fresh}
use Rattle.speculation.specs.World.{World}
use Rattle.speculation.proofs.Keeps.{fresh_holds}
use Rattle.image_semantics.specs.World.{world}
use Rattle.seq_machine.specs.States.{state_of}
use Rattle.slave.specs.Task.{Shown as TaskShown}
use Rattle.engine.specs.Shown.{AreTasksOf, tasks_shown, tasks_modelled}
use Rattle.engine.proofs.engine.Engine.new.Goals as goal

pub invariant_of-result : goal.invariant_of-result
invariant_of-result g c =
    let at = g.M.Memory.at in
    let start = c.in_ok-start.start in
    let image = c.args.image in
    let w : World = world (state_of at start) image c.args.slaves in
    let none : List TaskShown = tasks_shown at c.new.result.items in
    let begun : (s : State) → s ≡ state_of at start → (n : ℕ) → n ≡ 0 → (l : List TaskShown) → l ≡ [] → Holds w (record (fresh w) { committed = s; position = n; tasks = tasks_modelled l }) =
    λ s e n z l empty. subst (Holds w) (λ i. record (fresh w) { committed = sym e i; position = sym z i; tasks = tasks_modelled (sym empty i) }) (fresh_holds w) in
    record {
      image = c.requires.image;
      some = c.requires.some;
      few = c.requires.few;
      tasks = ∣ subst (AreTasksOf image) (sym (ap (tasks_shown at) c.new.ensures.items)) tt ∣₁;
      holds = ∣ begun (state_of at c.args.machine) (sym c.in_ok-start.ensures.state) c.args.machine.position c.requires.position none (ap (tasks_shown at) c.new.ensures.items) ∣₁;
    }
