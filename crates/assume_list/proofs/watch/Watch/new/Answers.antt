-- Nothing is marked yet.
use Rattle.std.proofs.Common.{ℕ, ap, refl}
use Rattle.seq_machine.specs.States.{state_of}
use Rattle.access_trace.specs.Shadows.{mark_at}
use Rattle.assume_list.specs.Marks.{dead_in}
use Rattle.assume_list.proofs.Watched.{begun}
use Rattle.assume_list.proofs.watch.Watch.new.Goals as goal

pub returns-clause-watched : goal.returns-clause-watched
returns-clause-watched g c =
    let at = g.M.Memory.at in
    let start = state_of at c.args.machine in
    begun start c.args.image.now c.args.machine.position start (at c.in_ok-program.program) (dead_in c.args.image.now.assumptions) (mark_at at c.in_ok-new.field-0) c.is_analysed-analysed.result
    c.requires.position refl c.in_ok-program.ensures refl (λ a. ap (λ (f : ℕ → ℕ). f a) c.in_ok-new.ensures) c.is_analysed-analysed.ensures
