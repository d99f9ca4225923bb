-- Each row by computing.
use Rattle.distill_rules.proofs.Worked.{sides, rules, never, store, jump, strange, hello, fence}
use Rattle.distill_rules.proofs.rows_are_worked.Goals as goal

pub returns : goal.returns
returns c = record { sides = sides; rules = rules; never = never; store = store; jump = jump; strange = strange; hello = hello; fence = fence }
