-- One of the rules is for the option and its value.
use Rattle.std.proofs.Common.{◌∙◌, sym, rules, tests}
use Rattle.std.proofs.lemmas.Iterator.{YieldsList-from_slice}
use Rattle.std.proofs.lemmas.Iterator.Search.{any_from_yields_List}
use Rattle.command_line.specs.Options.{shown_rule, is_line_for, takes}
use Rattle.command_line.specs.declared.options.Rule.{Rule}
use Rattle.command_line.proofs.Steps.{list_any-map}
use Rattle.command_line.proofs.options.takes.Goals as goal

pub returns : goal.returns
unfolding takes
returns c =
    any_from_yields_List (λ (rule : Rule). is_line_for c.args.option.now c.args.value.now (shown_rule rule)) _ _ c.any.result c.any.ensures.ran
    (YieldsList-from_slice c.args.rules.now cc) (λ x b q k. search (rules, tests))
    ∙ sym (list_any-map _ _ c.args.rules.now)
