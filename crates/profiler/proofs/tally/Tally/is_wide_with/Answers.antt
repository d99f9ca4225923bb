-- A position adds at most one row and one target.
use Rattle.std.proofs.Common.{◌≡◌, ◌≤◌, ◌+◌, cond, length, is_some, ap, sym, subst, arith}
use Rattle.indexmap.specs.IndexMap.{values}
use Rattle.profile_data.specs.Profile.{target_count, row_at}
use Rattle.profile_laws.specs.Profiles.{IsWide}
use Rattle.profile_laws.specs.Tally.{Kept, visited, rows_after}
use Rattle.profiler.specs.declared.owed.Owed.{Owed}
use Rattle.profiler.specs.Visits.{visit_of}
use Rattle.profiler.specs.Tally.{kept_of, base_of, entered}
use Rattle.profiler.proofs.Fits.{rows_after_length, rows_after_targets, few_more, narrow_by, at_most_one}
use Rattle.profiler.proofs.tally.Tally.is_wide_with.Goals as goal

pub returns-then-self-lt-MOST_TARGETS-clause-narrow : goal.returns-then-self-lt-MOST_TARGETS-clause-narrow
returns-then-self-lt-MOST_TARGETS-clause-narrow g c =
    let v = visit_of c.args.visit.now in
    let k = base_of g.M.Memory.at c.args.self.now in
    let rows = values c.args.self.now.table.rows in
    let is : kept_of g.M.Memory.at c.args.self.now ≡ k = ap (λ (o : Owed). entered o k) c.requires.none in
    let few = few_more v rows in
    let one = at_most_one (is_some (row_at rows c.args.visit.now.pc)) in
    let len : length rows ≤ 524_287 = omega (arith, c.len.ensures, c.if-len-lt-MOST_ROWS.true) in
    let count : target_count rows ≤ 1_048_575 = omega (arith, c.requires.tally.count, c.if-self-lt-MOST_TARGETS.true) in
    subst (λ (x : Kept). IsWide (rows_after v x) → ⊥) (sym is)
    (narrow_by (rows_after v k) (length rows + cond (is_some (row_at rows c.args.visit.now.pc)) 0 1) (target_count (visited v rows)) (rows_after_length v k) (rows_after_targets v k) (omega arith) (omega arith))
