-- The bytes of a range that is the same in two leaves.
use Rattle.std.proofs.Common.{◌≡◌, ℕ, List, ◌+◌, ◌-◌, ◌≤◌, ◌<◌, ◌∙◌, sym, ap, arith, slice_index}
use Rattle.std.proofs.lemmas.Bool.{OnTrue_from}
use Rattle.std.specs.List.{slice_range}
use Rattle.std.specs.Cmp.Lexicographic.{bytes_decides}
use Rattle.std.proofs.Math.ListN.{get_or, drop}
use Rattle.std.proofs.lemmas.List.{get_or-take, get_or-drop}
use denote.Hole.Carrier
use Rattle.tree_node.specs.declared.node.Node.TheViews.{out-Node}
use Rattle.tree_node.specs.Nodes.{byte}
use Rattle.tree_node.proofs.node.has_line.Goals as goal

-- a byte of a range of 64, by its index in the whole
in_range : (xs : List ℕ) (i j : ℕ) → i ≤ j → j < i + 64 → slice_index (slice_range xs i (i + 64)) (j - i) ≡ slice_index xs j
in_range xs i j from to = get_or-take (i + 64 - i) (drop i xs) (j - i) 0 (omega (arith, from, to)) ∙ get_or-drop i xs (j - i) 0 ∙ ap (λ n. get_or xs n 0) (omega (arith, from))

pub returns-in-Leaf : goal.returns-in-Leaf
unfolding out-Node Carrier.out
returns-in-Leaf c = OnTrue_from c.eq.result _ (λ e. λ j from to.
    let i = c.args.i in
    let same : slice_range c.in-Leaf.others.at i (i + 64) ≡ slice_range c.args.bytes.now.at i (i + 64) = (bytes_decides _ _).0 (sym c.eq.ensures ∙ e) in
    ap (λ n. byte n j) c.in-Leaf.is ∙ sym (in_range c.in-Leaf.others.at i j from to) ∙ ap (λ xs. slice_index xs (j - i)) same ∙ in_range c.args.bytes.now.at i j from to)
