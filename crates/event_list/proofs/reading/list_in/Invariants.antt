-- Each turn reads a line.
use Rattle.std.proofs.Common.{◌≤◌, ◌+◌, length}
use Rattle.event_list.proofs.SoFar.{SoFar}
use Rattle.event_list.proofs.reading.list_in.Given as goal

abbrev pub invariant-loop-rest : goal.invariant-loop-rest
invariant-loop-rest l = record {
  so_far : SoFar l.bytes l.rest l.events.items l.number l.sum;
  room : l.number + length l.rest ≤ length l.bytes;
}

abbrev pub decreases-loop-rest : goal.decreases-loop-rest
decreases-loop-rest l = length l.rest
