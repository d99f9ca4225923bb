-- The list that the loads give is that of the run.
use Rattle.std.proofs.Common.{◌≤◌, ℕ, List, All, sym, subst, arith}
use Rattle.cells.specs.Run.{State}
use Rattle.seq_machine.specs.States.{state_of}
use Rattle.profile_laws.specs.Profiles.{steps}
use Rattle.load_values.specs.Values.{IsSmall, AreValues}
use Rattle.fitting.specs.Fails.{IsLoaded}
use Rattle.load_values.specs.Found.{IsListed}
use Rattle.load_values.specs.Sights.{executed_count}
use Rattle.load_values.proofs.Listing.{is_listed, are_values, are_loaded}
use Rattle.load_values.proofs.finding.find_on.Goals as goal

pub returns-clause-values : goal.returns-clause-values
returns-clause-values g c =
    let start = state_of g.M.Memory.at c.in_ok-machine.machine in
    let counted = c.in_ok-find_all.ensures.counted in
    let few : executed_count c.find_all.new.loads.found.entries ≤ 524_288 = omega (arith, counted.few.count, counted.few.few) in
    subst AreValues (sym c.in_ok-rows.ensures.rows)
    (are_values start (steps start c.args.budget) c.find_all.new.loads.found counted.found c.rows.ensures.ordered counted.pcs (subst (All IsSmall) c.in_ok-rows.ensures.rows c.in_ok-rows.ensures.small) few)

pub returns-clause-listed : goal.returns-clause-listed
returns-clause-listed g c =
    let start = state_of g.M.Memory.at c.in_ok-machine.machine in
    let n = steps start c.args.budget in
    let is = is_listed start n c.find_all.new.loads.found c.in_ok-find_all.ensures.counted.found c.rows.ensures.ordered in
    let named = subst (λ (rows : List (ℕ × ℕ)). IsListed start n rows) (sym c.in_ok-rows.ensures.rows) is in
    subst (λ (s : State). IsListed s (steps s c.args.budget) c.in_ok-rows.field-0.items) c.in_ok-machine.ensures.state named

pub returns-clause-loaded : goal.returns-clause-loaded
returns-clause-loaded g c =
    let start = state_of g.M.Memory.at c.in_ok-machine.machine in
    let n = steps start c.args.budget in
    let are = are_loaded start n c.find_all.new.loads.found c.in_ok-find_all.ensures.counted.found c.rows.ensures.ordered in
    let named = subst (λ (rows : List (ℕ × ℕ)). All (IsLoaded start n) rows) (sym c.in_ok-rows.ensures.rows) are in
    subst (λ (s : State). All (IsLoaded s (steps s c.args.budget)) c.in_ok-rows.field-0.items) c.in_ok-machine.ensures.state named
