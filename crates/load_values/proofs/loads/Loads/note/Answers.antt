-- What is counted once more is the load that was not executed before.
use Rattle.std.proofs.Common.{rules, ◌≡◌, arith}
use Rattle.std.specs.Ordering.{nat_cmp}
use Rattle.std.specs.BTreeMap.{get}
use Rattle.load_values.proofs.Few.{count_next}
use Rattle.load_values.proofs.loads.Loads.note.Goals as goal

pub returns-clause-few : goal.returns-clause-few
returns-clause-few c =
    let known : c.copied-known.result ≡ get nat_cmp c.args.self.now.found c.args.pc = search rules in
    let next = count_next c.args.self.now.found.entries c.insert.new.self.entries c.args.pc c.args.sight c.noted.result c.copied-known.result c.insert.ensures.was_ordered c.in_ok-insert.ensures.entries c.noted.ensures known in
    record {
      count = omega (arith, next, c.requires.count, c.newly.ensures);
      few = omega (arith, c.if-self-gt-MOST.false);
    }
