-- The number of steps is within its range.
use Rattle.std.proofs.Common.{◌≤◌, ◌^◌, sym, subst}
use Rattle.command_line.proofs.walk_words.walk_with.Goals as goal

pub invariant_of-result : goal.invariant_of-result
invariant_of-result c =
    record { least = subst (λ n. 1 ≤ n) (sym c.number_or.ensures) c.requires.least; most = subst (λ n. n ≤ 10 ^ 12) (sym c.number_or.ensures) c.requires.most }
