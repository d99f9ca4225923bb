use Rattle.std.proofs.Common.{is_ok, rules, ◌≡◌, ◌++◌, ◌∷◌, [], sym, ap, ◌∙◌, subst, List}
use Rattle.memory.specs.declared.page.Page.{Page}
use Rattle.memory.specs.Pages.{place_in, byte_in, IsMade}
use Rattle.memory.proofs.Pages.{if_some, if_none, no_page_yet, page_added, is_made, kept_placed, kept_added, placed_after, new_page}
use Rattle.memory.proofs.plain.PlainMemory.make.Goals as goal

pub returns-then-is_some-clause-made : goal.returns-then-is_some-clause-made
returns-then-is_some-clause-made c = if_some c.page.result _ _ _ c.page.ensures (λ _ w. w.1) (sym c.is_some.ensures ∙ c.if-is_some.true)

pub returns-in_err-push-clause-same : goal.returns-in_err-push-clause-same
returns-in_err-push-clause-same c =
    let none = if_none c.page.result _ _ c.page.ensures (sym c.is_some.ensures ∙ c.if-is_some.false) in
    let items : c.push.new.self.items ≡ c.args.self.now.pages.items = search rules in
    ap (byte_in (place_in c.set.new.self)) items
    ∙ no_page_yet (place_in c.args.self.now.directory) (place_in c.set.new.self) c.args.self.now.pages.items c.args.number c.len.result (search rules) c.in_ok-set.ensures.ok none.0

pub returns-in_err-push-clause-kept : goal.returns-in_err-push-clause-kept
returns-in_err-push-clause-kept c n made =
    let none = if_none c.page.result _ _ c.page.ensures (sym c.is_some.ensures ∙ c.if-is_some.false) in
    let items : c.push.new.self.items ≡ c.args.self.now.pages.items = search rules in
    let P : List Page → Type 0 = λ pages. IsMade (place_in c.set.new.self) pages n in
    subst P (sym items) (kept_placed (place_in c.args.self.now.directory) (place_in c.set.new.self) c.args.self.now.pages.items c.args.number c.len.result (search rules) c.in_ok-set.ensures.ok none.0 none.1 n made)

pub returns-clause-same : goal.returns-clause-same
returns-clause-same c =
    let none = if_none c.page.result _ _ c.page.ensures (sym c.is_some.ensures ∙ c.if-is_some.false) in
    let items : c.push.new.self.items ≡ c.args.self.now.pages.items ++ new_page c.args.number ∷ [] = search rules in
    ap (byte_in (place_in c.set.new.self)) items
    ∙ page_added (place_in c.args.self.now.directory) (place_in c.set.new.self) c.args.self.now.pages.items c.args.number c.len.result (search rules) c.in_ok-set.ensures.ok none.0

pub returns-clause-made : goal.returns-clause-made
returns-clause-made c =
    let none = if_none c.page.result _ _ c.page.ensures (sym c.is_some.ensures ∙ c.if-is_some.false) in
    let items : c.push.new.self.items ≡ c.args.self.now.pages.items ++ new_page c.args.number ∷ [] = search rules in
    let P : List Page → Type 0 = λ pages. IsMade (place_in c.set.new.self) pages c.args.number in
    subst P (sym items) (is_made (place_in c.args.self.now.directory) (place_in c.set.new.self) c.args.self.now.pages.items c.args.number c.len.result (search rules) c.in_ok-set.ensures.ok none.0)

pub returns-clause-kept : goal.returns-clause-kept
returns-clause-kept c n made =
    let none = if_none c.page.result _ _ c.page.ensures (sym c.is_some.ensures ∙ c.if-is_some.false) in
    let items : c.push.new.self.items ≡ c.args.self.now.pages.items ++ new_page c.args.number ∷ [] = search rules in
    let P : List Page → Type 0 = λ pages. IsMade (place_in c.set.new.self) pages n in
    subst P (sym items) (kept_added (place_in c.args.self.now.directory) (place_in c.set.new.self) c.args.self.now.pages.items c.args.number c.len.result (search rules) c.in_ok-set.ensures.ok none.0 none.1 n made)

pub invariant_of-self-2 : goal.invariant_of-self-2
invariant_of-self-2 c =
    let none = if_none c.page.result _ _ c.page.ensures (sym c.is_some.ensures ∙ c.if-is_some.false) in
    record {
      code_is_placed = placed_after (place_in c.args.self.now.directory) (place_in c.set.new.self) c.args.self.now.pages.items c.args.number c.len.result (search rules) c.in_ok-set.ensures.ok none.0 none.1
          c.args.self.now.code c.args.self.now.code_is_placed c.push.new.self.items (is_ok c.push.result) c.push.ensures.items;
    }
