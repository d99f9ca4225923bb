-- The bytes are looked at and printed, and x10 is put; without room nothing is done.
use Rattle.std.proofs.Common.{ap, ◌∙◌, ◌++◌, arith}
use Rattle.cells.specs.Seen.{Seen}
use Rattle.layers.specs.Layered.{seen_over, output_of, after_write, written_bytes}
use Rattle.layers.proofs.Prints.{few_counted, all_written, all_printed, on_err}
use Rattle.layers.proofs.view.TaskView.print.Goals as goal

pub returns-in_err-make_room-clause-err_seen : goal.returns-in_err-make_room-clause-err_seen
returns-in_err-make_room-clause-err_seen g c = on_err c.from_residual.result c.make_room.ensures.seen

pub show-requires : goal.show-requires
show-requires g c =
    let at = g.M.Memory.at in
    let room = c.in_ok-make_room.ensures.ok in
    let few = few_counted (seen_over at c.args.self.now.cells) (seen_over at c.make_room.new.self.cells) (seen_over at c.register-from.new.self) c.register-count.result c.requires c.make_room.ensures.seen c.register-from.ensures.seen
    c.register-count.ensures.value in
    let kept = ap (λ k. k.reads) (c.register-count.ensures.room ∙ c.register-from.ensures.room) in
    record { to_read = omega (arith, few, kept, room.to_read); to_put = omega arith; to_print = omega (arith, few, room.to_print) }

pub returns-clause-seen : goal.returns-clause-seen
returns-clause-seen g c =
    let at = g.M.Memory.at in
    let s : Seen = seen_over at c.make_room.new.self.cells in
    all_written s (seen_over at c.register-from.new.self) (seen_over at c.register-count.new.self) (seen_over at c.show.new.self.cells) (seen_over at c.set_reg.new.self) c.register-from.result c.register-count.result
    c.register-from.ensures.value c.register-from.ensures.seen c.register-count.ensures.value c.register-count.ensures.seen c.show.ensures.seen c.set_reg.ensures.seen
    ∙ ap after_write c.make_room.ensures.seen

pub returns-clause-output : goal.returns-clause-output
returns-clause-output g c =
    let at = g.M.Memory.at in
    let s : Seen = seen_over at c.make_room.new.self.cells in
    all_printed s (seen_over at c.register-from.new.self) (seen_over at c.register-count.new.self) c.register-from.result c.register-count.result (output_of c.make_room.new.self) (output_of c.show.new.self)
    c.register-from.ensures.value c.register-from.ensures.seen c.register-count.ensures.value c.register-count.ensures.seen c.show.ensures.output
    ∙ (λ i. c.make_room.ensures.output i ++ written_bytes (c.make_room.ensures.seen i))
