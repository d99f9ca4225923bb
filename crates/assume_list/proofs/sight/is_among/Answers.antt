-- By what the search finds.
use Rattle.std.proofs.Common.{◌∙◌}
use Rattle.distill_rules.proofs.Found.{among_searched}
use Rattle.assume_list.proofs.sight.is_among.Goals as goal

pub returns : goal.returns
returns c = c.is_ok.ensures.value ∙ among_searched c.args.ns.now c.args.n _ c.requires c.binary_search.ensures.bound c.binary_search.ensures.position
