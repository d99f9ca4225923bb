use Rattle.std.proofs.Common.{ap, ◌∙◌}
use Rattle.std.proofs.lemmas.Bool.{OnFalse_at}
use Rattle.std.proofs.lemmas.Result.{on_ok_weaker}
use Rattle.cells.specs.Bytes.{after_puts}
use Rattle.page_leaves.specs.Trees.{leaf_of}
use Rattle.page_leaves.proofs.Trees.{same_bytes}
use Rattle.page_leaves.proofs.leaves.Leaves.put_two.Goals as goal

pub returns-clause-ok : goal.returns-clause-ok
returns-clause-ok g c = on_ok_weaker c.renew_two.result
    (λ is. is ∙ ap (λ m. after_puts (after_puts m c.args.a c.args.here.now) c.args.next c.args.later.now)
    (OnFalse_at c.if-write_two.false c.write_two.ensures.refused
    ∙ same_bytes (leaf_of c.bring.new.self) (leaf_of c.bring-2.new.self) c.bring-2.ensures.same
    ∙ same_bytes (leaf_of c.args.self.now) (leaf_of c.bring.new.self) c.bring.ensures.same))
    c.renew_two.ensures.ok

pub returns-clause-leaves : goal.returns-clause-leaves
returns-clause-leaves g c n one two = c.renew_two.ensures.leaves n one two ∙ c.write_two.ensures.leaves n one two ∙ c.bring-2.ensures.same n ∙ c.bring.ensures.same n
