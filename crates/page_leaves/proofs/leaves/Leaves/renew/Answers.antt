use Rattle.std.proofs.Common.{rules, ◌/◌}
use Rattle.page_leaves.specs.Shown.{in_front}
use Rattle.page_leaves.specs.Trees.{behind}
use Rattle.page_leaves.proofs.Trees.{renewed_in_front, renewed_others}
use Rattle.page_leaves.proofs.leaves.Leaves.renew.Goals as goal

pub returns-clause-ok : goal.returns-clause-ok
returns-clause-ok g c = renewed_in_front (in_front c.args.self.now.front) (in_front c.set.new.self) (behind c.args.self.now) c.args.a c.args.bytes.now
    (search rules) c.requires.fits c.in_ok-leaf.leaf.value c.bytes-image.result c.overwrite.new.image c.overwrite.ensures.whole c.bytes-image.ensures c.overwrite.ensures.bytes c.in_ok-leaf.ensures.bytes
    c.requires.alone c.set.ensures.here c.set.ensures.away c.set.ensures.others

pub returns-clause-leaves : goal.returns-clause-leaves
returns-clause-leaves g c = renewed_others (in_front c.args.self.now.front) (in_front c.set.new.self) (behind c.args.self.now) (c.args.a / 256) c.requires.alone c.set.ensures.away c.set.ensures.others
