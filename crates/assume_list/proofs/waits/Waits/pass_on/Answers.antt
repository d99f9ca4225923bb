-- At an arrival those that wait are lowered.
use Rattle.std.proofs.Common.{false, ap, ◌∙◌, subst, sym}
use Rattle.assumption_laws.specs.Waits.{passed_on}
use Rattle.assume_list.specs.Shown.{IsEarly, shown}
use Rattle.assume_list.proofs.Early.{early_lower, shown_next}
use Rattle.assume_list.proofs.waits.Waits.pass_on.Goals as goal

pub returns-then-arrives-clause-list : goal.returns-then-arrives-clause-list
returns-then-arrives-clause-list c =
    shown_next c.args.self.now.arrivals c.args.self.now.list.items
    ∙ ap (λ b. passed_on false b (shown c.args.self.now)) (sym c.if-arrives.true)
    ∙ ap (λ b. passed_on b c.args.arrives (shown c.args.self.now)) (sym c.if-stops.false)

pub returns-then-arrives-clause-early : goal.returns-then-arrives-clause-early
returns-then-arrives-clause-early c =
    subst (λ ws. IsEarly c.args.self.now.due c.args.self.now.limit ws) (sym (shown_next c.args.self.now.arrivals c.args.self.now.list.items))
    (early_lower c.args.self.now.due c.args.self.now.limit (shown c.args.self.now) c.requires.early)
