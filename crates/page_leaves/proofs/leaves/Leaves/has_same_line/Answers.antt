-- A line lies in one leaf.
use Rattle.std.proofs.Common.{◌≡◌, ◌/◌, ◌%◌, ◌∙◌, sym, ap, arith, slice_index}
use Rattle.std.proofs.lemmas.Bool.{OnTrue_from, OnTrue_at}
use Rattle.tree_node.specs.Nodes.{bytes_of}
use Rattle.page_leaves.specs.Paths.{leaf_bytes}
use Rattle.page_leaves.specs.Trees.{leaf_of}
use Rattle.page_leaves.proofs.leaves.Leaves.has_same_line.Goals as goal

pub returns-in-Some-leaf : goal.returns-in-Some-leaf
returns-in-Some-leaf c = OnTrue_from c.has_same_line.result _ (λ e. λ q at.
    let here : q / 256 ≡ c.args.number / 4 = omega (arith, at) in
    ap (λ n. slice_index (leaf_bytes (leaf_of c.args.self.now n)) (q % 256)) here
    ∙ sym (ap (λ o. slice_index (leaf_bytes o) (q % 256)) c.in-Some.ensures)
    ∙ sym (ap (λ n. slice_index (bytes_of n) (q % 256)) c.deref-in-Some-leaf.ensures)
    ∙ OnTrue_at e c.has_same_line.ensures (q % 256) (omega (arith, at)) (omega (arith, at))
    ∙ ap (λ n. slice_index (bytes_of n) (q % 256)) c.deref.ensures
    ∙ ap (λ o. slice_index (leaf_bytes o) (q % 256)) c.in-Some-leaf.ensures
    ∙ sym (ap (λ n. slice_index (leaf_bytes (leaf_of c.args.other.now n)) (q % 256)) here))
