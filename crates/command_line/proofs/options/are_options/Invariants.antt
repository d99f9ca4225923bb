-- The words that were passed are options.
use Rattle.std.proofs.Common.{◌≡◌, length, map, string_bytes}
use Rattle.command_line.specs.Options.{shown_rule, are_options}
use Rattle.command_line.proofs.options.are_options.Given as goal

abbrev pub invariant-loop-rest : goal.invariant-loop-rest
invariant-loop-rest l =
    are_options (map shown_rule l.rules) (map string_bytes l.fn.words) ≡ are_options (map shown_rule l.rules) (map string_bytes l.rest)

abbrev pub decreases-loop-rest : goal.decreases-loop-rest
decreases-loop-rest l = length l.rest
