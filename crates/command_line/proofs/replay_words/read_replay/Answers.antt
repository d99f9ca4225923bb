-- The options were tested.
use Rattle.std.proofs.Common.{◌-◌, ◌∙◌, ◌≤◌, sym, map, length, take, drop, string_bytes, subst, arith}
use Rattle.command_line.proofs.Steps.{slaves-given, slaves-between}
use Rattle.command_line.proofs.replay_words.read_replay.Goals as goal

pub number_or-requires : goal.number_or-requires
number_or-requires c =
    slaves-given (map string_bytes (take (length c.args.words.now - 3) (drop 3 c.args.words.now))) (sym c.are_options.ensures ∙ c.if-are_options.true)

pub overflow_cast-result : goal.overflow_cast-result
overflow_cast-result c =
    let between = slaves-between (map string_bytes (take (length c.args.words.now - 3) (drop 3 c.args.words.now))) (sym c.are_options.ensures ∙ c.if-are_options.true) in
    let few : c.number_or.result ≤ 64 = subst (λ n. n ≤ 64) (sym c.number_or.ensures) between.1 in
    omega (arith, few)

pub invariant_of-result : goal.invariant_of-result
invariant_of-result c =
    let between = slaves-between (map string_bytes (take (length c.args.words.now - 3) (drop 3 c.args.words.now))) (sym c.are_options.ensures ∙ c.if-are_options.true) in
    record { some = subst (λ n. 1 ≤ n) (sym c.number_or.ensures) between.0; few = subst (λ n. n ≤ 64) (sym c.number_or.ensures) between.1 }
