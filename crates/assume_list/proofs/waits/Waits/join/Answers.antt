-- One more waits.
use Rattle.std.proofs.Common.{◌+◌, ◌++◌, ◌∷◌, [], ap, ◌∙◌, subst, sym, arith}
use Rattle.assume_list.specs.Shown.{IsEarly, shown_in, shown}
use Rattle.assume_list.proofs.Early.{early_less, early_push, shown_push}
use Rattle.assume_list.proofs.waits.Waits.join.Goals as goal

pub returns-in_ok-push-clause-early : goal.returns-in_ok-push-clause-early
returns-in_ok-push-clause-early c =
    let least = c.min-self.ensures in
    let limit = c.from.ensures in
    let a = c.args.self.now.arrivals in
    subst (λ ws. IsEarly c.min-self.result c.args.self.now.limit ws)
    (sym (ap (shown_in a) c.in_ok-push.ensures.items ∙ ap (λ n. shown_in a (c.args.self.now.list.items ++ record { since = c.args.position; last = a + n } ∷ [])) c.from-then-position-bound.ensures
    ∙ shown_push a c.args.position c.in-Some.count c.args.self.now.list.items (c.requires.some c.in-Some.count c.in-Some.is)))
    (early_push c.min-self.result c.args.self.now.limit (shown c.args.self.now) (record { since = c.args.position; left = c.in-Some.count })
    (early_less c.args.self.now.due c.min-self.result c.args.self.now.limit (shown c.args.self.now) (omega (arith, least)) c.requires.early)
    (omega (arith, least, limit)))
