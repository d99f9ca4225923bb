-- What was taken before, and what came last.
use Rattle.std.proofs.Common.{◌++◌, ◌+◌, ◌≤◌, take, length, arith}
use Rattle.std.proofs.KnownBytes.{Consumes-trans}
use Rattle.std.proofs.lemmas.Grind.{common_steps}
use Rattle.std.proofs.lemmas.List.{length-append}
use Rattle.devices.proofs.moves.read_up_to.Goals as goal

pub returns-then-count-left-clause-taken : goal.returns-then-count-left-clause-taken
returns-then-count-left-clause-taken g c =
    let before = c.loop-count.bytes.items in
    let last = take c.in-Ok.count c.read.new.buf in
    let long : length (before ++ last) ≤ c.args.limit + 1 =
    let sum = length-append before last in
    let bound = c.in-Ok.ensures.bound in
    let least = c.min-asked.ensures in
    let more = c.saturating_add.ensures in
    let within = c.loop-count.invariant.0 in
    let long = c.len.ensures in
    grind (arith, common_steps, sum, bound, least, more, within, long) in
    λ e. (before ++ last, Consumes-trans _ _ _ before last c.loop-count.invariant.1 c.in-Ok.ensures.bytes.0, long)
