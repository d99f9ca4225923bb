-- A task that has only begun.
use Rattle.std.proofs.Common.{ℕ, List, [], sym, ap, subst, arith, None}
use Rattle.cells.specs.declared.Cell.{Cell}
use Rattle.cells.specs.Seen.{Seen}
use Rattle.rv_semantics.specs.Values.{plain_value}
use Rattle.image_semantics.specs.World.{world}
use Rattle.slave.specs.Task.{Shown, modelled, Shows}
use Rattle.slave.proofs.Keeps.{fresh_shows}
use Rattle.slave.proofs.task.Task.begin.Goals as goal

-- a task at this pc, with this count, view and output
abbrev of_view : ℕ → ℕ → ℕ → Seen → List ℕ → Shown
of_view number pc count s output = record { number = number; seen = s; output = output; pc = pc; count = count; left = count; steps = 0; ending = None }

pub returns-clause-shown : goal.returns-clause-shown
returns-clause-shown g c =
    let is = c.in_ok-begin.ensures in
    λ i. of_view c.args.number c.args.anchor.now.pc c.args.anchor.now.count (is.seen i) (is.output i)

pub returns-clause-model : goal.returns-clause-model
returns-clause-model g c = ap (λ (s : Seen). modelled (of_view c.args.number c.args.anchor.now.pc c.args.anchor.now.count s [])) c.in_ok-begin.ensures.seen

pub returns-clause-task : goal.returns-clause-task
returns-clause-task g c = λ image ok start slaves.
    let base : Cell → ℕ = plain_value c.args.anchor.now.pc c.args.regs (g.M.Memory.at c.args.mem) in
    let is = c.requires in
    let limit = ok.limit.0 in
    subst (Shows (world start image slaves)) (sym (returns-clause-shown g c))
    (fresh_shows start image slaves c.args.number c.args.anchor.now.count base (omega (arith, limit)) is.2 is.0.0)
