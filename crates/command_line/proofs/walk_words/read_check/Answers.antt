-- The options were tested.
use Rattle.std.proofs.Common.{◌-◌, ◌∙◌, sym, map, length, take, drop, string_bytes}
use Rattle.command_line.proofs.Steps.{check-budget-given, check-budget-between}
use Rattle.command_line.proofs.walk_words.read_check.Goals as goal

pub walk_with-requires : goal.walk_with-requires
walk_with-requires c =
    let words = map string_bytes (take (length c.args.words.now - 2) (drop 2 c.args.words.now)) in
    let tested = sym c.are_options.ensures ∙ c.if-are_options.true in
    let between = check-budget-between words tested in
    record { given = check-budget-given words tested; least = between.0; most = between.1 }
