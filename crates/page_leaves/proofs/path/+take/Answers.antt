use Rattle.std.proofs.Common.{rules, ◌≡◌, Some, sym, ap, ◌∙◌}
use Rattle.tree_node.specs.Nodes.{owned}
use Rattle.page_leaves.specs.Paths.{kid}
use Rattle.page_leaves.proofs.Paths.{leaf_under, others_in}
use Rattle.page_leaves.proofs.path.+take.Goals as goal
use Rattle.page_leaves.proofs.path.+take.Goals.{in-Some+in-Some-get_mut+else-is_inner, in-Some+in_default-get_mut, in_default}

pub returns-then-is_inner-clause-leaf : goal.returns-then-is_inner-clause-leaf
returns-then-is_inner-clause-leaf t c =
    let there : owned c.args.slot.now ≡ Some c.in-Some-get_mut.node.now = search rules in
    leaf_under c.args.depth c.digit-i.result c.args.number c.rest-rest.result (search rules) c.digit-i.ensures.value c.rest-rest.ensures.value
    c.take-taken.result (owned c.args.slot.now) (owned c.exchange.new.other) (c.exchange.ensures.given ∙ ap (λ o. kid o c.digit-i.result) (sym there)) c.take-taken.ensures.leaf

pub returns-then-is_inner-clause-others : goal.returns-then-is_inner-clause-others
returns-then-is_inner-clause-others t c =
    others_in c.args.depth c.digit-i.result c.args.number c.rest-rest.result (search rules) c.digit-i.ensures.value c.rest-rest.ensures.value
    (owned c.args.slot.now) (owned c.take-taken.new.slot) (owned c.exchange.new.other) c.in-Some-get_mut.node.now c.exchange.new.self c.exchange-then-is_inner.new.self
    (search rules) c.exchange.ensures.given c.exchange.ensures.taken c.exchange-then-is_inner.ensures.taken c.take-taken.ensures.others

pub returns-clause-leaf : goal.returns-clause-leaf
returns-clause-leaf t c =
    let same : owned c.match-slot.slot ≡ owned c.args.slot.now =
    elim c.match-slot.branch [ in-Some+in-Some-get_mut+else-is_inner w ↦ ap owned w.slot-is ∙ search rules | in-Some+in_default-get_mut w ↦ ap owned w.slot-is ∙ search rules | in_default w ↦ ap owned w.slot-is ∙ search rules ] in
    leaf_under c.args.depth c.digit-i.result c.args.number c.rest-rest.result (search rules) c.digit-i.ensures.value c.rest-rest.ensures.value
    c.take-2.result (owned c.args.slot.now) (owned c.in_ok-kid.kid) (c.in_ok-kid.ensures ∙ ap (λ o. kid o c.digit-i.result) same) c.take-2.ensures.leaf
