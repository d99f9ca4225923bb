-- The options were tested.
use Rattle.std.proofs.Common.{ℕ, ◌≤◌, ◌^◌, ◌≡◌, Option, None, Some, IfSome, unwrap_or, sym, map, string_bytes, subst, arith}
use Rattle.command_line.proofs.Steps.{budget-given, budget-between, run-slaves-given, run-slaves-between, adapt-given, adapt-between}
use Rattle.command_line.proofs.run_words.read_options.Goals as goal

least_of : (o : Option ℕ) → IfSome o (λ n. (1 ≤ n) × (n ≤ 10 ^ 9)) → 1 ≤ unwrap_or o 1
least_of None h = omega arith
least_of (Some n) h = h.0

most_of : (o : Option ℕ) → IfSome o (λ n. (1 ≤ n) × (n ≤ 10 ^ 9)) → unwrap_or o 1 ≤ 10 ^ 9
most_of None h = omega arith
most_of (Some n) h = h.1

pub number_if_given-requires : goal.number_if_given-requires
number_if_given-requires c = adapt-given (map string_bytes c.args.options.now) c.requires

pub number_or-requires : goal.number_or-requires
number_or-requires c = run-slaves-given (map string_bytes c.args.options.now) c.requires

pub number_or-requires-2 : goal.number_or-requires-2
number_or-requires-2 c = budget-given (map string_bytes c.args.options.now) c.requires

pub overflow_cast-result : goal.overflow_cast-result
overflow_cast-result c =
    let between = run-slaves-between (map string_bytes c.args.options.now) c.requires in
    let few : c.number_or.result ≤ 64 = subst (λ n. n ≤ 64) (sym c.number_or.ensures) between.1 in
    omega (arith, few)

pub invariant_of-result : goal.invariant_of-result
invariant_of-result c =
    let between = run-slaves-between (map string_bytes c.args.options.now) c.requires in
    let budget = budget-between (map string_bytes c.args.options.now) c.requires in
    let adapt = adapt-between (map string_bytes c.args.options.now) c.requires in
    record {
      some = subst (λ n. 1 ≤ n) (sym c.number_or.ensures) between.0;
      few = subst (λ n. n ≤ 64) (sym c.number_or.ensures) between.1;
      least = subst (λ n. 1 ≤ n) (sym c.number_or-2.ensures) budget.0;
      most = subst (λ n. n ≤ 10 ^ 12) (sym c.number_or-2.ensures) budget.1;
      rarely = subst (λ (o : Option ℕ). 1 ≤ unwrap_or o 1) (sym c.number_if_given.ensures) (least_of _ adapt);
      often = subst (λ (o : Option ℕ). unwrap_or o 1 ≤ 10 ^ 9) (sym c.number_if_given.ensures) (most_of _ adapt);
    }
