-- Four registers, one after another.
use Rattle.std.proofs.Common.{ap, ◌∙◌}
use Rattle.cells.specs.declared.Cell.TheVariants.{Reg}
use Rattle.cells.specs.Seen.{look}
use Rattle.layers.specs.Layered.{seen_over}
use Rattle.layers.proofs.Prints.{four_values}
use Rattle.layers.proofs.view.TaskView.call_args.Goals as goal

pub returns-clause-value : goal.returns-clause-value
returns-clause-value g c =
    let at = g.M.Memory.at in
    four_values (seen_over at c.args.self.now.cells) (seen_over at c.register-descriptor.new.self) (seen_over at c.register-from.new.self) (seen_over at c.register-count.new.self)
    c.register-descriptor.result c.register-from.result c.register-count.result c.register-number.result
    c.register-descriptor.ensures.value c.register-descriptor.ensures.seen c.register-from.ensures.value c.register-from.ensures.seen c.register-count.ensures.value c.register-count.ensures.seen c.register-number.ensures.value

pub returns-clause-seen : goal.returns-clause-seen
returns-clause-seen g c =
    c.register-number.ensures.seen ∙ ap (look (Reg 17)) (c.register-count.ensures.seen ∙ ap (look (Reg 12)) (c.register-from.ensures.seen ∙ ap (look (Reg 11)) c.register-descriptor.ensures.seen))
