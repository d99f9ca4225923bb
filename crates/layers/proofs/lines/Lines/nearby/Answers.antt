-- The entry at the place was compared with the number.
use Rattle.std.proofs.Common.{sym, ap, ◌∙◌, Some}
use Rattle.layers.proofs.lines.Lines.nearby.Goals as goal

pub returns-in-Some : goal.returns-in-Some
returns-in-Some c = (c.in-Some.field-0-1.now, sym c.in-Some.ensures.entry ∙ ap (λ n. Some (n, c.in-Some.field-0-1.now)) c.if-number-n.true)
