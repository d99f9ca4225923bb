-- What is known at a position, and that no other assumption fails before it.
use Rattle.std.proofs.Common.{◌≡◌, ◌≤◌, ◌-◌}
use Rattle.seq_machine.specs.States.{state_of}
use Rattle.access_trace.specs.Shadows.{mark_at}
use Rattle.assume_list.specs.Marks.{dead_in}
use Rattle.assume_list.specs.Places.{AreKnown}
use Rattle.assume_list.specs.Watched.{IsWatched}
use Rattle.assume_list.specs.Shown.{IsEarly, shown}
use Rattle.assume_list.specs.Passes.{IsReached, IsClean}
use Rattle.assume_list.proofs.passing.pass.Given as goal

abbrev pub invariant-loop-alloc : goal.invariant-loop-alloc
invariant-loop-alloc g l =
    let at = g.M.Memory.at in
    let start = state_of at l.fn.watch.machine in
    let s = state_of at l.watch.machine in
    let j = l.watch.machine.position in
    record {
      watched : IsWatched start l.image j s (at l.watch.program) (dead_in l.image.assumptions) (mark_at at l.watch.marks) l.watch.analysed;
      listed : l.watch.listed ≡ l.fn.watch.listed;
      reached : IsReached start l.image l.asked.bound j s (shown l.waits);
      clean : IsClean start l.image j;
      within : j ≤ l.budget;
      known : AreKnown l.pcs l.image;
      arrivals : l.waits.arrivals ≤ l.watch.machine.position;
      early : IsEarly l.waits.due l.waits.limit (shown l.waits);
      limit : l.waits.limit ≡ l.fn.waits.limit;
    }

abbrev pub decreases-loop-alloc : goal.decreases-loop-alloc
decreases-loop-alloc g l = l.budget - l.watch.machine.position
