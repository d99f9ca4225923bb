-- One that waits is shown.
use Rattle.std.proofs.Common.{◌-◌, sym, arith}
use Rattle.assume_list.proofs.Early.{some_shown}
use Rattle.assume_list.proofs.waits.some_wait.Goals as goal
use Rattle.assume_list.specs.declared.waits.Wait.{Wait}

pub returns-then-arrivals-list : goal.returns-then-arrivals-list
returns-then-arrivals-list c =
    let k = c.loop-left.left - 1 in
    let within = c.loop-left.invariant.within in
    let some = c.loop-left-test.true in
    let here = c.if-arrivals-list.true in
    let none : Wait = record { since = 0; last = 0 } in
    sym (some_shown c.args.arrivals k c.args.list.now none (omega (arith, within, some)) (omega (arith, here)))
