use Rattle.std.proofs.Common.{rules, ◌≡◌, ◌==◌, if◌then◌else◌, Some, ℕ, subst, sym, ap, ◌∙◌}
use Rattle.std.proofs.lemmas.Result.{on_ok_weaker, on_err_weaker}
use Rattle.tree_node.specs.Nodes.{owned}
use Rattle.page_leaves.specs.Paths.{kid, leaf_below}
use Rattle.page_leaves.proofs.Paths.{placed_at, placed, placed_in, unchanged_in}
use Rattle.page_leaves.proofs.path.+place.Goals as goal
use Rattle.page_leaves.proofs.path.+place.Goals.{in-Some+in-Some-get_mut+else-is_inner, in-Some+in_default-get_mut, in_default}

pub returns-then-depth-eq0-clause-ok : goal.returns-then-depth-eq0-clause-ok
returns-then-depth-eq0-clause-ok g t c =
    let own : Some c.in_ok-clone.field-0.value ≡ Some c.args.leaf.now.value = search rules in
    subst (λ o. (n : ℕ) → leaf_below c.args.depth o n ≡ (if n == c.args.number then Some c.args.leaf.now.value else leaf_below c.args.depth (owned c.args.slot.now) n)) (sym own)
    (placed_at c.args.depth c.args.number (owned c.args.slot.now) (Some c.args.leaf.now.value) (search rules) c.requires.number)

pub returns-then-is_inner-clause-ok : goal.returns-then-is_inner-clause-ok
returns-then-is_inner-clause-ok g t c = on_ok_weaker c.place-placed.result
    (placed_in c.args.depth c.digit-i.result c.args.number c.rest-rest.result (search rules) c.digit-i.ensures.value c.rest-rest.ensures.value
    (owned c.args.slot.now) (owned c.place-placed.new.slot) (owned c.exchange.new.other) (Some c.args.leaf.now.value) c.in-Some-get_mut.node.now c.exchange.new.self c.exchange-then-is_inner.new.self
    (search rules) c.exchange.ensures.given c.exchange.ensures.taken c.exchange-then-is_inner.ensures.taken)
    c.place-placed.ensures.ok

pub returns-then-is_inner-clause-err : goal.returns-then-is_inner-clause-err
returns-then-is_inner-clause-err g t c = on_err_weaker c.place-placed.result
    (unchanged_in c.args.depth c.digit-i.result c.args.number c.rest-rest.result (search rules) c.digit-i.ensures.value c.rest-rest.ensures.value
    (owned c.args.slot.now) (owned c.place-placed.new.slot) (owned c.exchange.new.other) c.in-Some-get_mut.node.now c.exchange.new.self c.exchange-then-is_inner.new.self
    (search rules) c.exchange.ensures.given c.exchange.ensures.taken c.exchange-then-is_inner.ensures.taken)
    c.place-placed.ensures.err

pub returns-clause-ok : goal.returns-clause-ok
returns-clause-ok g t c =
    let same : owned c.match-slot-2.slot ≡ owned c.args.slot.now =
    elim c.match-slot-2.branch [ in-Some+in-Some-get_mut+else-is_inner w ↦ ap owned w.slot-is ∙ search rules | in-Some+in_default-get_mut w ↦ ap owned w.slot-is ∙ search rules | in_default w ↦ ap owned w.slot-is ∙ search rules ] in
    placed c.args.depth c.digit-i.result c.args.number c.rest-rest.result (search rules) c.digit-i.ensures.value c.rest-rest.ensures.value
    (owned c.args.slot.now) (Some c.in_ok-renewed.field-0.value) (owned c.place.new.slot) (owned c.in_ok-kid.kid) (Some c.args.leaf.now.value)
    (c.in_ok-kid.ensures ∙ ap (λ o. kid o c.digit-i.result) same)
    (λ j. c.in_ok-renewed.ensures.ok j ∙ ap (λ o. if j == c.digit-i.result then owned c.place.new.slot else kid o j) same)
    c.in_ok-place.ensures.ok
