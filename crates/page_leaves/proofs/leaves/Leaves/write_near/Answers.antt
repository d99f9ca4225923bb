use Rattle.std.proofs.Common.{◌∙◌}
use Rattle.std.proofs.lemmas.Bool.{OnFalse_from, OnFalse_at}
use Rattle.page_leaves.specs.Trees.{leaf_of}
use Rattle.page_leaves.proofs.Trees.{same_bytes}
use Rattle.page_leaves.proofs.leaves.Leaves.write_near.Goals as goal

pub returns-clause-refused : goal.returns-clause-refused
returns-clause-refused c = OnFalse_from c.write.result _ (λ e. OnFalse_at e c.write.ensures.refused ∙ same_bytes (leaf_of c.args.self.now) (leaf_of c.draw.new.self) c.draw.ensures)
