-- The value of a load is found by its key, where one is listed.
use Rattle.std.proofs.Common.{◌+◌, ◌*◌, ◌∙◌, sym, ap, not}
use Rattle.dist_image.specs.Image.{Same}
use Rattle.assume_list.specs.Sights.{seen}
use Rattle.assume_list.proofs.Quiet.{same_by_key, same_no_load, same_unlisted}
use Rattle.assume_list.proofs.sight.value_fails.Goals.{then-not-listed-via-then-not-listed, then-not-listed-via-else-not-listed+then-is_none}
use Rattle.assume_list.proofs.sight.value_fails.Goals as goal

pub returns-then-not-listed : goal.returns-then-not-listed
returns-then-not-listed c = λ h k at value e.
    let v = seen c.args.sight.now c.args.marks.now in
    elim c.then-not-listed.branch [
      | then-not-listed-via-then-not-listed w ↦ same_unlisted v c.args.image.now.assumptions k at value (sym c.requires.listed ∙ w.if-not-listed.true) e
      | then-not-listed-via-else-not-listed+then-is_none w ↦ same_no_load v at value (ap not w.is_none.ensures ∙ ap (λ b. not (not b)) w.if-is_none.true)
    ]

pub returns : goal.returns
returns c = λ h k at value e.
    same_by_key (seen c.args.sight.now c.args.marks.now) at value c.keyed_fails.result h (λ is. c.keyed_fails.ensures k (Same at value) e (is ∙ ap (λ n. 6 * 4294967296 + n) (sym c.from.ensures)))
