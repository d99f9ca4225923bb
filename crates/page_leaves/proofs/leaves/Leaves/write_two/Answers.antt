use Rattle.std.proofs.Common.{rules, ◌/◌}
use Rattle.std.proofs.lemmas.Bool.{OnTrue_from, OnTrue_at, OnFalse_from, OnFalse_at}
use Rattle.page_leaves.specs.Shown.{in_front}
use Rattle.page_leaves.specs.Trees.{behind}
use Rattle.page_leaves.proofs.Trees.{written_both, alike_in_front}
use Rattle.page_leaves.proofs.leaves.Leaves.write_two.Goals as goal

pub returns-clause-written : goal.returns-clause-written
returns-clause-written c = OnTrue_from c.write_both.result _ (λ e. written_both (in_front c.args.self.now.front) (in_front c.write_both.new.self) (behind c.args.self.now) c.args.a c.args.next c.args.here.now c.args.later.now
    (search rules) c.requires.border c.requires.next c.requires.later (OnTrue_at e c.write_both.ensures.first) (OnTrue_at e c.write_both.ensures.second) c.write_both.ensures.others)

pub returns-clause-refused : goal.returns-clause-refused
returns-clause-refused c = OnFalse_from c.write_both.result _ (λ e. alike_in_front (in_front c.args.self.now.front) (in_front c.write_both.new.self) (behind c.args.self.now) (c.args.a / 256) (c.args.next / 256)
    (OnFalse_at e c.write_both.ensures.first_refused) (OnFalse_at e c.write_both.ensures.second_refused) c.write_both.ensures.others)
