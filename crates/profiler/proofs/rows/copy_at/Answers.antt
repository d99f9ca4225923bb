-- The rows have different addresses, so the row is new.
use Rattle.std.proofs.Common.{◌≡◌, ◌+◌, ◌++◌, ◌∷◌, [], suc, take, is_some, ap, sym, ◌∙◌, subst, arith}
use Rattle.std.specs.Prelude.{nat_eq}
use Rattle.std.specs.List.{IsDistinct}
use Rattle.indexmap.specs.IndexMap.{values}
use Rattle.profile_data.specs.Profile.{row_at}
use Rattle.profiler.proofs.Entries.{value_at}
use Rattle.profiler.proofs.Copied.{take_next, not_before}
use Rattle.profiler.proofs.Results.{on_ok}
use Rattle.profiler.proofs.rows.copy_at.Goals as goal

pub copy_in-requires-clause-new : goal.copy_in-requires-clause-new
copy_in-requires-clause-new c =
    let at = value_at c.args.from.now.entries c.args.i _ c.in-Some.row.now (sym c.in-Some.ensures.entry) in
    ap (λ ts. is_some (row_at ts c.in-Some.row.now.pc)) c.requires.copied
    ∙ not_before (values c.args.from.now) c.args.i c.in-Some.row.now (subst (IsDistinct nat_eq) c.requires.from c.len-count.ensures.unique) at

pub returns-in-Some-clause-rows : goal.returns-in-Some-clause-rows
returns-in-Some-clause-rows c =
    let at = value_at c.args.from.now.entries c.args.i _ c.in-Some.row.now (sym c.in-Some.ensures.entry) in
    let next : suc c.args.i ≡ c.args.i + 1 = omega arith in
    on_ok c.copy_in.result c.copy_in.ensures.rows (λ e.
    e ∙ ap (λ ts. ts ++ c.in-Some.row.now ∷ []) c.requires.copied ∙ sym (take_next (values c.args.from.now) c.args.i c.in-Some.row.now at) ∙ ap (λ n. take n (values c.args.from.now)) next)
