use Rattle.std.proofs.Common.{rules, ◌/◌}
use Rattle.std.proofs.lemmas.Bool.{OnTrue_from, OnTrue_at, OnFalse_from, OnFalse_at}
use Rattle.page_leaves.specs.Shown.{in_front}
use Rattle.page_leaves.specs.Trees.{behind}
use Rattle.page_leaves.proofs.Trees.{written_in_front, refused_in_front}
use Rattle.page_leaves.proofs.leaves.Leaves.write.Goals as goal

pub returns-clause-written : goal.returns-clause-written
returns-clause-written c = OnTrue_from c.write.result _ (λ e. written_in_front (in_front c.args.self.now.front) (in_front c.write.new.self) (behind c.args.self.now) c.args.a c.args.bytes.now
    (search rules) c.requires (OnTrue_at e c.write.ensures.whole) (OnTrue_at e c.write.ensures.there) c.write.ensures.stays (OnTrue_at e c.write.ensures.written) c.write.ensures.others)

pub returns-clause-refused : goal.returns-clause-refused
returns-clause-refused c = OnFalse_from c.write.result _ (λ e. refused_in_front (in_front c.args.self.now.front) (in_front c.write.new.self) (behind c.args.self.now) (c.args.a / 256)
    c.write.ensures.stays (OnFalse_at e c.write.ensures.refused) c.write.ensures.others)
