-- The chain gives the ends of the parts.
use Rattle.std.proofs.Common.{◌∙◌, sym, ap, rules, tests, unwrap_or, Option, ℕ}
use Rattle.std.proofs.lemmas.Iterator.{YieldsList-from_slice, YieldsList-from_map}
use Rattle.std.proofs.lemmas.Iterator.Adapters.{option_map_id}
use Rattle.std.proofs.lemmas.Iterator.Consumers.{max_from_yields_List, YieldsList-at}
use Rattle.elf_reader.specs.Executable.{end_of}
use Rattle.elf_reader.proofs.build.greatest_end.Goals as goal

pub returns-clause-end : goal.returns-clause-end
returns-clause-end c =
    c.unwrap_or.ensures
    ∙ ap (λ (o : Option ℕ). unwrap_or o 0) (sym (option_map_id _)
    ∙ max_from_yields_List c.map.result _ c.max.ensures.ran
    (YieldsList-from_map _ end_of (YieldsList-at c.map.ensures.source (YieldsList-from_slice c.args.parts.now cc)) c.map.ensures.closure (λ x r q k. search (rules, tests))))
