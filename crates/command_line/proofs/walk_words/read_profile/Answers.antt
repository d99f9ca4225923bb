-- The options were tested.
use Rattle.std.proofs.Common.{◌-◌, ◌∙◌, sym, map, length, take, drop, string_bytes}
use Rattle.command_line.proofs.Steps.{profile-budget-given, profile-budget-between, calls-given}
use Rattle.command_line.proofs.walk_words.read_profile.Goals as goal

pub walk_with-requires : goal.walk_with-requires
walk_with-requires c =
    let words = map string_bytes (take (length c.args.words.now - 2) (drop 2 c.args.words.now)) in
    let tested = sym c.are_options.ensures ∙ c.if-are_options.true in
    let between = profile-budget-between words tested in
    record { given = profile-budget-given words tested; least = between.0; most = between.1 }

pub number_or-requires : goal.number_or-requires
number_or-requires c =
    calls-given (map string_bytes (take (length c.args.words.now - 2) (drop 2 c.args.words.now))) (sym c.are_options.ensures ∙ c.if-are_options.true)
