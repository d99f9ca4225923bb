-- Each one may be the earliest.
use Rattle.std.proofs.Common.{arith}
use Rattle.assume_list.proofs.Early.{early_at}
use Rattle.assume_list.proofs.waits.earliest.Goals as goal

pub loop-wait-preserved : goal.loop-wait-preserved
loop-wait-preserved c = λ due arrivals l e.
    let both = c.min-least.ensures in
    c.loop-wait.invariant due arrivals (omega (arith, l, both))
    (early_at due c.args.limit arrivals _ c.loop-wait.wait-index c.saturating_add.result _ c.args.list.now _ c.loop-wait-test.true c.from.ensures c.saturating_add.ensures (omega (arith, l, both)) e)
