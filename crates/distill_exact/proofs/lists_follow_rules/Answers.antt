-- List by list.
use Rattle.distill_exact.proofs.Lists.{lists_follow}
use Rattle.distill_exact.proofs.lists_follow_rules.Goals as goal

pub returns : goal.returns
returns c = lists_follow
