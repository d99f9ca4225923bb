use Rattle.std.proofs.Common.{rules, ◌/◌, ◌∙◌, ap, sym, Some}
use Rattle.std.specs.Prelude.{slice_index}
use Rattle.page_tree.specs.Spots.{spot}
use Rattle.page_leaves.specs.Paths.{leaf_bytes}
use Rattle.page_tree.specs.Shown.{in_recent}
use Rattle.page_leaves.specs.Trees.{leaf_of}
use Rattle.page_leaves.proofs.Trees.{word_kept}
use Rattle.page_tree.proofs.Kept.{kept_more}
use Rattle.page_tree.proofs.tree.PageTree.keep.Goals as goal

pub invariant_of-self : goal.invariant_of-self
invariant_of-self c = record {
  kept = c.args.self.now.kept;
  known = kept_more spot (in_recent c.args.self.now.loaded) (in_recent c.set.new.self) (leaf_of c.args.self.now.leaves) (c.args.a / 256) c.args.leaf.value c.args.self.now.known c.requires.leaf
      c.set.ensures.here c.set.ensures.away c.set.ensures.others;
}

pub returns-clause-value : goal.returns-clause-value
returns-clause-value c =
    c.word_of-word.ensures
    ∙ word_kept (leaf_of c.args.self.now.leaves) c.args.a (Some c.args.leaf.value) (search rules) c.requires.even (λ i. ap (λ o. slice_index (leaf_bytes o) i) (sym c.requires.leaf))
