-- What is read changes no number of rows or targets, so look-ups tell them.
use Rattle.std.proofs.Common.{◌≡◌, ◌+◌, Bool, true, false, cond, length, is_some, inl, inr, ap, sym, ◌∙◌, refl, subst, arith}
use Rattle.std.specs.Prelude.{nat_lt}
use Rattle.std.specs.Bool.{OnTrue, OnFalse}
use Rattle.std.proofs.lemmas.Bool.{ltb-true, ltb-false}
use Rattle.indexmap.specs.IndexMap.{values}
use Rattle.profile_data.specs.Profile.{target_count, row_at}
use Rattle.profile_laws.specs.Profiles.{IsWide}
use Rattle.profile_laws.specs.Tally.{Kept, rows_after}
use Rattle.profiler.specs.declared.owed.Owed.{Owed}
use Rattle.profiler.specs.Visits.{visit_of}
use Rattle.profiler.specs.Tally.{kept_of, base_of, entered}
use Rattle.profiler.proofs.Fits.{rows_after_length, rows_after_targets, narrow_by}
use Rattle.profiler.proofs.tally.Tally.passes.Goals as goal

on_true : {P : Type 0} (b : Bool) → (b ≡ true → P) → OnTrue b P
on_true true f = f refl
on_true false f = tt

on_false : {P : Type 0} (b : Bool) → (b ≡ false → P) → OnFalse b P
on_false true f = tt
on_false false f = f refl

pub returns-then-rows-gt-MOST_ROWS-clause-wide : goal.returns-then-rows-gt-MOST_ROWS-clause-wide
returns-then-rows-gt-MOST_ROWS-clause-wide g c =
    let v = visit_of c.args.visit.now in
    let k = base_of g.M.Memory.at c.args.self.now in
    let is : kept_of g.M.Memory.at c.args.self.now ≡ k = ap (λ (o : Owed). entered o k) c.requires.none in
    let rows : length (rows_after v k) ≡ c.len.result + c.new_rows.result = rows_after_length v k ∙ ap (λ n. n + cond (is_some (row_at (values c.args.self.now.table.rows) c.args.visit.now.pc)) 0 1) (sym c.len.ensures) ∙ ap (λ n. c.len.result + n) (sym c.new_rows.ensures) in
    subst (λ (x : Kept). OnTrue (nat_lt 524288 (c.len.result + c.new_rows.result)) (IsWide (rows_after v x))) (sym is)
    (on_true (nat_lt 524288 (c.len.result + c.new_rows.result)) (λ e. inl (let h = ltb-true 524288 (c.len.result + c.new_rows.result) e in omega (arith, rows))))

pub returns-else-rows-gt-MOST_ROWS-clause-wide : goal.returns-else-rows-gt-MOST_ROWS-clause-wide
returns-else-rows-gt-MOST_ROWS-clause-wide g c =
    let v = visit_of c.args.visit.now in
    let k = base_of g.M.Memory.at c.args.self.now in
    let is : kept_of g.M.Memory.at c.args.self.now ≡ k = ap (λ (o : Owed). entered o k) c.requires.none in
    let targets : target_count (rows_after v k) ≡ c.args.self.now.targets + c.new_targets.result = rows_after_targets v k ∙ c.new_targets.ensures.added ∙ ap (λ n. n + c.new_targets.result) (sym c.requires.tally.count) in
    subst (λ (x : Kept). OnTrue (nat_lt 1048576 (c.args.self.now.targets + c.new_targets.result)) (IsWide (rows_after v x))) (sym is)
    (on_true (nat_lt 1048576 (c.args.self.now.targets + c.new_targets.result)) (λ e. inr (let h = ltb-true 1048576 (c.args.self.now.targets + c.new_targets.result) e in omega (arith, targets))))

pub returns-else-rows-gt-MOST_ROWS-clause-narrow : goal.returns-else-rows-gt-MOST_ROWS-clause-narrow
returns-else-rows-gt-MOST_ROWS-clause-narrow g c =
    let v = visit_of c.args.visit.now in
    let k = base_of g.M.Memory.at c.args.self.now in
    let is : kept_of g.M.Memory.at c.args.self.now ≡ k = ap (λ (o : Owed). entered o k) c.requires.none in
    let rows : length (rows_after v k) ≡ c.len.result + c.new_rows.result = rows_after_length v k ∙ ap (λ n. n + cond (is_some (row_at (values c.args.self.now.table.rows) c.args.visit.now.pc)) 0 1) (sym c.len.ensures) ∙ ap (λ n. c.len.result + n) (sym c.new_rows.ensures) in
    let targets : target_count (rows_after v k) ≡ c.args.self.now.targets + c.new_targets.result = rows_after_targets v k ∙ c.new_targets.ensures.added ∙ ap (λ n. n + c.new_targets.result) (sym c.requires.tally.count) in
    subst (λ (x : Kept). OnFalse (nat_lt 1048576 (c.args.self.now.targets + c.new_targets.result)) (IsWide (rows_after v x) → ⊥)) (sym is)
    (on_false (nat_lt 1048576 (c.args.self.now.targets + c.new_targets.result)) (λ e.
    narrow_by (rows_after v k) (c.len.result + c.new_rows.result) (c.args.self.now.targets + c.new_targets.result) rows targets (omega (arith, c.if-rows-gt-MOST_ROWS.false)) (ltb-false 1048576 (c.args.self.now.targets + c.new_targets.result) e)))
