-- Those that wait no more are not shown.
use Rattle.std.proofs.Common.{ap, ◌∙◌, List}
use Rattle.std.specs.Prelude.{nat_lt}
use Rattle.std.specs.List.{filter}
use Rattle.assume_list.specs.declared.waits.Wait.{Wait}
use Rattle.assume_list.specs.Shown.{shown_in}
use Rattle.assume_list.proofs.Early.{shown_waiting}
use Rattle.assume_list.proofs.waits.Waits.tidy.Goals as goal

pub returns-clause-list : goal.returns-clause-list
returns-clause-list c =
    let a = c.args.self.now.arrivals in
    rw c.swap.ensures.x_after
    (ap (shown_in a) c.in_ok-waiting.ensures
    ∙ ap (λ (ws : List Wait). shown_in a (filter (λ (w : Wait). nat_lt a w.last) ws)) c.deref.ensures.value
    ∙ shown_waiting a c.args.self.now.list.items)
