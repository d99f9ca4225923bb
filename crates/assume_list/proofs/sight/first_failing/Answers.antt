-- Where none can fail, none does.
use Rattle.std.proofs.Common.{◌∙◌, sym, length, eqb-true}
use Rattle.assumption_laws.specs.Looks.{fails_by}
use Rattle.assume_list.specs.Sights.{seen}
use Rattle.assume_list.proofs.Quiet.{none_first, quiet}
use Rattle.assume_list.proofs.sight.first_failing.Goals as goal

pub returns-then-not-value_fails : goal.returns-then-not-value_fails
returns-then-not-value_fails c =
    let v = seen c.args.sight.now c.args.marks.now in
    let xs = c.args.image.now.assumptions in
    none_first (fails_by v) 0 xs
    (quiet v xs c.args.listed.code c.args.listed.within (eqb-true (length c.args.marks.now) 0 (sym c.is_empty.ensures ∙ c.if-is_empty.true)) c.requires.code c.requires.within
    (sym c.whole_fails.ensures ∙ c.if-not-whole_fails.true) (c.cut_fails.ensures c.if-not-cut_fails.true) (c.targets_fail.ensures c.if-not-targets_fail.true)
    (c.value_fails.ensures c.if-not-value_fails.true))
