use Rattle.std.proofs.Common.{rules, ◌%◌, ◌/◌}
use Rattle.std.proofs.lemmas.Option.{MatchOption-at_none}
use Rattle.memory.proofs.Directories.{table_pushed}
use Rattle.memory.proofs.directory.Directory.make_table.Goals as goal

pub returns-clause-same : goal.returns-clause-same
returns-clause-same c n =
    table_pushed c.args.self.now.top c.args.self.now.tables.items c.push.new.self.items c.args.upper (n / 1024) (n % 1024) c.len-made.result
    (search rules)
    (MatchOption-at_none _ _ c.in_default.is c.table.ensures)
    (search rules)
    (search rules)
