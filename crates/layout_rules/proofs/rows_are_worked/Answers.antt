-- Each row by computing.
use Rattle.layout_rules.proofs.Worked.{counts, aims, hot, never, store, input, bare, print, value}
use Rattle.layout_rules.proofs.rows_are_worked.Goals as goal

pub returns : goal.returns
returns c = record { counts = counts; aims = aims; hot = hot; never = never; store = store; input = input; bare = bare; print = print; value = value }
