use Rattle.std.proofs.Common.{rules, ◌/◌, ◌≡◌, true, is_some, ◌∙◌, sym, ap}
use Rattle.std.specs.Prelude.{slice_index}
use Rattle.page_leaves.specs.Paths.{leaf_bytes}
use Rattle.page_leaves.specs.Shown.{in_front}
use Rattle.page_leaves.specs.Trees.{behind, leaf_of}
use Rattle.page_leaves.proofs.Trees.{or_else_some, word_kept}
use Rattle.page_leaves.proofs.leaves.Leaves.word_in_front.Goals as goal

pub returns-in-Some : goal.returns-in-Some
returns-in-Some c =
    let some : is_some (in_front c.args.self.now.front (c.args.a / 256)) ≡ true = search rules in
    c.in-Some.ensures.value
    ∙ word_kept (leaf_of c.args.self.now) c.args.a (in_front c.args.self.now.front (c.args.a / 256)) (search rules) c.requires
    (λ i. sym (ap (λ o. slice_index (leaf_bytes o) i) (or_else_some (in_front c.args.self.now.front (c.args.a / 256)) (behind c.args.self.now (c.args.a / 256)) some)))
