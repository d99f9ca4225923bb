-- The options were tested.
use Rattle.std.proofs.Common.{◌≤◌, ◌^◌, sym, map, string_bytes, subst, arith}
use Rattle.command_line.proofs.Steps.{rare-given, rare-between, hot-given, hot-between, goal-given, goal-between, limit-given, limit-between}
use Rattle.command_line.proofs.distill_words.read_options.Goals as goal

pub number_or-requires : goal.number_or-requires
number_or-requires c = rare-given (map string_bytes c.args.options.now) c.requires

pub number_or-requires-2 : goal.number_or-requires-2
number_or-requires-2 c = hot-given (map string_bytes c.args.options.now) c.requires

pub number_or-requires-3 : goal.number_or-requires-3
number_or-requires-3 c = goal-given (map string_bytes c.args.options.now) c.requires

pub number_or-requires-4 : goal.number_or-requires-4
number_or-requires-4 c = limit-given (map string_bytes c.args.options.now) c.requires

pub overflow_cast-result : goal.overflow_cast-result
overflow_cast-result c =
    let between = rare-between (map string_bytes c.args.options.now) c.requires in
    let few : c.number_or.result ≤ 100 = subst (λ n. n ≤ 100) (sym c.number_or.ensures) between.1 in
    omega (arith, few)

pub overflow_cast-result-2 : goal.overflow_cast-result-2
overflow_cast-result-2 c =
    let between = goal-between (map string_bytes c.args.options.now) c.requires in
    let few : c.number_or-3.result ≤ 65536 = subst (λ n. n ≤ 65536) (sym c.number_or-3.ensures) between.1 in
    omega (arith, few)

pub overflow_cast-result-3 : goal.overflow_cast-result-3
overflow_cast-result-3 c =
    let between = limit-between (map string_bytes c.args.options.now) c.requires in
    let few : c.number_or-4.result ≤ 16384 = subst (λ n. n ≤ 16384) (sym c.number_or-4.ensures) between.1 in
    omega (arith, few)

pub invariant_of-result : goal.invariant_of-result
invariant_of-result c =
    let rare = rare-between (map string_bytes c.args.options.now) c.requires in
    let hot = hot-between (map string_bytes c.args.options.now) c.requires in
    let aim = goal-between (map string_bytes c.args.options.now) c.requires in
    let limit = limit-between (map string_bytes c.args.options.now) c.requires in
    record {
      most_rare = subst (λ n. n ≤ 100) (sym c.number_or.ensures) rare.1;
      least_hot = subst (λ n. 1 ≤ n) (sym c.number_or-2.ensures) hot.0;
      most_hot = subst (λ n. n ≤ 10 ^ 12) (sym c.number_or-2.ensures) hot.1;
      least_goal = subst (λ n. 1 ≤ n) (sym c.number_or-3.ensures) aim.0;
      most_goal = subst (λ n. n ≤ 65536) (sym c.number_or-3.ensures) aim.1;
      least_limit = subst (λ n. 16 ≤ n) (sym c.number_or-4.ensures) limit.0;
      most_limit = subst (λ n. n ≤ 16384) (sym c.number_or-4.ensures) limit.1;
    }
