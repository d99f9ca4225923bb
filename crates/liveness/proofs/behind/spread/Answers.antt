-- One place more.
use Rattle.std.proofs.Common.{◌<◌, get_or, sym, subst, length}
use Rattle.std.specs.Prelude.{take}
use Rattle.std.proofs.lemmas.List.{take_more}
use Rattle.liveness.specs.Behind.{IsSpread}
use Rattle.liveness.proofs.Spreading.{spread_more}
use Rattle.liveness.proofs.behind.spread.Goals as goal

pub loop-i-preserved : goal.loop-i-preserved
loop-i-preserved c =
    let to = c.args.places.now in
    let k = c.loop-i.i-index in
    let i = get_or to k 0 in
    let done = c.in_ok-join.ensures {u = tt} in
    let inside : i < length c.args.behind.now = c.requires k 0 c.loop-i-test.true in
    subst (λ to. IsSpread c.args.mask to c.args.behind.now c.join.new.behind c.args.next.now.items c.join.new.next.items) (sym (take_more to k 0 c.loop-i-test.true))
    (spread_more c.args.mask (take k to) c.args.behind.now c.loop-i.behind c.join.new.behind c.args.next.now.items c.loop-i.next.items c.join.new.next.items i inside
    c.loop-i.invariant done.behind done.next)
