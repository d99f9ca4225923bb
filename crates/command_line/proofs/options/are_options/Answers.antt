-- Fewer than two words are left.
use Rattle.std.proofs.Common.{map, string_bytes}
use Rattle.command_line.specs.Options.{shown_rule}
use Rattle.command_line.proofs.Steps.{are_options-short}
use Rattle.command_line.proofs.options.are_options.Goals as goal

pub returns : goal.returns
returns c = cc (are_options-short (map shown_rule c.args.rules.now) string_bytes c.loop-rest.rest.now c.in_default.len_below)
