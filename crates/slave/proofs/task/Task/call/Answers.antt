-- The registers are looked at; a short write is done, for which there is room.
use Rattle.std.proofs.Common.{◌≡◌, true, false, ◌++◌, sym, ap, ◌∙◌}
use Rattle.std.proofs.lemmas.Bool.{true≢false}
use Rattle.cells.specs.Seen.{Seen}
use Rattle.rv_semantics.specs.Prints.{is_short_write}
use Rattle.layers.specs.Layered.{after_write, written_bytes}
use Rattle.slave.specs.Task.{Shown, shown, called}
use Rattle.slave.proofs.Calls.{short_is}
use Rattle.slave.proofs.task.Task.call.Goals as goal

pub returns-then-not-is_short_write-clause-ok : goal.returns-then-not-is_short_write-clause-ok
returns-then-not-is_short_write-clause-ok g c =
    let k : Shown = shown g.M.Memory.at c.args.self.now in
    let args = c.in_ok-descriptor.ensures in
    let long : is_short_write k.seen.value ≡ false = sym (c.is_short_write.ensures ∙ short_is c.in_ok-descriptor.field-0 k.seen.value args.value) ∙ c.if-not-is_short_write.true in
    (λ i. record k { seen = args.seen i; output = args.output i }) ∙ ap (λ b. called b k) (sym long)

pub print-requires : goal.print-requires
print-requires g c =
    let k : Shown = shown g.M.Memory.at c.args.self.now in
    let args = c.in_ok-descriptor.ensures in
    ap (λ (s : Seen). is_short_write s.value) args.seen ∙ sym (c.is_short_write.ensures ∙ short_is c.in_ok-descriptor.field-0 k.seen.value args.value) ∙ c.if-not-is_short_write.false

pub returns-in_err-print-clause-sure : goal.returns-in_err-print-clause-sure
returns-in_err-print-clause-sure g c = absurd (true≢false (sym (c.in_err-print.ensures.sure (c.in_ok-descriptor.ensures.room 256 1 256 c.requires))))

pub returns-clause-ok : goal.returns-clause-ok
returns-clause-ok g c =
    let k : Shown = shown g.M.Memory.at c.args.self.now in
    let args = c.in_ok-descriptor.ensures in
    let print = c.in_ok-print.ensures in
    let short : is_short_write k.seen.value ≡ true = sym (c.is_short_write.ensures ∙ short_is c.in_ok-descriptor.field-0 k.seen.value args.value) ∙ c.if-not-is_short_write.false in
    (λ i. record k { seen = (print.seen ∙ ap after_write args.seen) i; output = (print.output ∙ (λ j. args.output j ++ written_bytes (args.seen j))) i }) ∙ ap (λ b. called b k) (sym short)
