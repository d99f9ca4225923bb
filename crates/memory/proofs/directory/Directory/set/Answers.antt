use Rattle.std.proofs.Common.{rules, ◌==◌, ap, ◌∙◌, cond}
use Rattle.memory.proofs.Directories.{place_set_in}
use Rattle.memory.proofs.directory.Directory.set.Goals as goal

pub returns-clause-ok : goal.returns-clause-ok
returns-clause-ok c n =
    let found = c.in_ok-at.ensures.found in
    place_set_in c.make_table.new.self.top c.make_table.new.self.tables.items c.in_ok-at.at n c.args.number c.args.place c.index_mut.result.now
    found.0
    (search rules)
    found.2
    c.index_mut.ensures.value
    (search rules)
    ∙ ap (λ p. cond (n == c.args.number) c.args.place p) (c.in_ok-at.ensures.same n)
