-- One that has waited for the whole limit began to wait so long ago.
use Rattle.std.proofs.Common.{◌≡◌, ◌+◌, ◌-◌, ◌∙◌, sym, ap, arith}
use Rattle.assumption_laws.specs.Waits.{joined, is_overdue}
use Rattle.image_semantics.specs.World.{count_of}
use Rattle.assume_list.specs.Shown.{shown}
use Rattle.assume_list.proofs.Turns.{overdue_near}
use Rattle.assume_list.proofs.passing.take_turn.Goals as goal

pub overflow_sub-result : goal.overflow_sub-result
overflow_sub-result c =
    let late = sym c.in_ok-step.ensures.late ∙ c.if-branch.true in
    let limit = c.step.ensures.limit in
    let near = overdue_near c.args.waits.now.limit c.args.turn.position _ late in
    let here = c.from.ensures in
    omega (arith, near, here, limit)

pub returns-then-branch-clause-turned : goal.returns-then-branch-clause-turned
returns-then-branch-clause-turned c =
    let late = sym c.in_ok-step.ensures.late ∙ c.if-branch.true in
    let limit = c.step.ensures.limit in
    let near = overdue_near c.args.waits.now.limit c.args.turn.position _ late in
    let here = c.from.ensures in
    let is = c.requires.limit in
    let back : c.args.turn.position - c.from.result + c.args.image.now.limit ≡ c.args.turn.position = omega (arith, near, here, limit, is) in (
      back,
      ap (λ n. is_overdue n c.args.turn.position (joined c.args.bound c.args.turn.position (count_of c.args.image.now c.args.turn.pc) (shown c.args.waits.now))) (sym is)
          ∙ ap (λ o. is_overdue c.args.waits.now.limit c.args.turn.position (joined c.args.bound c.args.turn.position o (shown c.args.waits.now))) (sym c.count-here.ensures.count)
          ∙ late,
    )
