-- No anchor stands between these two.
use Rattle.std.proofs.Common.{◌≡◌, ℕ, ◌-◌, ◌<◌, ◌≤◌, length, ap, arith}
use Rattle.std.proofs.lemmas.Bool.{ltb-true}
use Rattle.dist_image.specs.Image.{Distilled}
use Rattle.slave.proofs.Gaps.{StandsBelow, StandsAbove, none_between}
use Rattle.slave.proofs.task.lies_between.Goals.{else-below-gt0-via-then-below-gt0+else-pc-index, else-below-gt0-via-else-below-gt0}
use Rattle.slave.proofs.task.lies_between.Goals as goal

pub returns-then-below-count : goal.returns-then-below-count
returns-then-below-count c = λ h.
    let same = ap (λ (image : Distilled). image.anchors) c.image.view_is in
    let items = c.image.inside.anchors.items in
    let len = c.len-count.ensures in
    let end = c.if-below-count.true in
    let last : 0 < c.args.below → StandsBelow items (c.args.below - 1) c.args.pc = elim c.else-below-gt0.branch [
      | else-below-gt0-via-then-below-gt0+else-pc-index w ↦ λ l. (w.index.result.now, w.index.ensures, w.if-pc-index.false)
      | else-below-gt0-via-else-below-gt0 w ↦ λ l. absurd (let none = w.if-below-gt0.false in omega (arith, l, none))
    ] in
    none_between c.args.image.now c.requires items same c.args.pc c.args.below (omega (arith, len, end)) last (λ more. absurd (omega (arith, len, end, more)))

pub returns-else-below-count : goal.returns-else-below-count
returns-else-below-count c = λ h.
    let same = ap (λ (image : Distilled). image.anchors) c.image.view_is in
    let items = c.image.inside.anchors.items in
    let len = c.len-count.ensures in
    let few = c.if-count-below.false in
    let last : 0 < c.args.below → StandsBelow items (c.args.below - 1) c.args.pc = elim c.else-below-gt0.branch [
      | else-below-gt0-via-then-below-gt0+else-pc-index w ↦ λ l. (w.index.result.now, w.index.ensures, w.if-pc-index.false)
      | else-below-gt0-via-else-below-gt0 w ↦ λ l. absurd (let none = w.if-below-gt0.false in omega (arith, l, none))
    ] in
    none_between c.args.image.now c.requires items same c.args.pc c.args.below (omega (arith, len, few)) last
    (λ more. (c.index-else-below-count.result.now, c.index-else-below-count.ensures, ltb-true c.args.pc c.index-else-below-count.result.now.pc h))
