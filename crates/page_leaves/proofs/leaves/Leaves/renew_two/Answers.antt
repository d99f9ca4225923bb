use Rattle.std.proofs.Common.{rules, arith, ◌≡◌, ◌/◌, ◌%◌, sym, ap, ◌∙◌}
use Rattle.cells.specs.Bytes.{after_puts}
use Rattle.tree_node.specs.Nodes.{overwritten}
use Rattle.page_leaves.specs.Paths.{leaf_bytes}
use Rattle.std.specs.Prelude.{slice_index}
use Rattle.page_leaves.specs.Shown.{in_front}
use Rattle.page_leaves.specs.Trees.{behind}
use Rattle.page_leaves.proofs.Trees.{renewed_in_front, renewed_others}
use Rattle.page_leaves.proofs.leaves.Leaves.renew_two.Goals as goal

pub returns-clause-ok : goal.returns-clause-ok
returns-clause-ok g c =
    renewed_in_front (in_front c.put_here.new.self.front) (in_front c.set.new.self) (behind c.put_here.new.self) c.args.next c.args.later.now
    (search rules) (omega (arith, c.requires.border, c.requires.next, c.requires.later)) c.in_ok-second.second.value c.bytes-image.result c.overwrite.new.image c.overwrite.ensures.whole
    (λ i. c.bytes-image.ensures i ∙ ap (λ o. slice_index (leaf_bytes o) i) (sym (c.put_here.ensures.leaves (c.args.next / 256) (λ e. omega (arith, c.requires.border, c.requires.next)))))
    (c.overwrite.ensures.bytes ∙ (let z : 0 ≡ c.args.next % 256 = omega (arith, c.requires.border, c.requires.next) in ap (λ k. overwritten c.bytes-image.result k c.args.later.now) z))
    c.in_ok-second.ensures.bytes
    (λ n same ne. c.put_here.ensures.others n (λ e. omega (arith, c.requires.border, c.requires.next)) ∙ c.requires.second n same ne)
    c.set.ensures.here c.set.ensures.away c.set.ensures.others
    ∙ ap (λ m. after_puts m c.args.next c.args.later.now) c.in_ok-put_here.ensures.ok

pub returns-clause-leaves : goal.returns-clause-leaves
returns-clause-leaves g c n one two =
    renewed_others (in_front c.put_here.new.self.front) (in_front c.set.new.self) (behind c.put_here.new.self) (c.args.next / 256)
    (λ n same ne. c.put_here.ensures.others n (λ e. omega (arith, c.requires.border, c.requires.next)) ∙ c.requires.second n same ne)
    c.set.ensures.away c.set.ensures.others n two
    ∙ c.put_here.ensures.leaves n one
