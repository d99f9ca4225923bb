-- Fewer than two words are left.
use Rattle.std.proofs.Common.{◌∙◌, sym, string_bytes}
use Rattle.command_line.proofs.Steps.{value_of-short}
use Rattle.command_line.proofs.options.value_of.Goals as goal

pub returns : goal.returns
returns c = sym (c.loop-rest.invariant ∙ value_of-short _ string_bytes c.loop-rest.rest.now c.in_default.len_below)
