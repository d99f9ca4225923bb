-- Four bytes, one after another.
use Rattle.layers.specs.Layered.{seen_over}
use Rattle.layers.proofs.Cells.{word_seen}
use Rattle.layers.proofs.overlay.Overlay.word_by_bytes.Goals as goal

pub returns-clause-value : goal.returns-clause-value
returns-clause-value g c =
    let at = g.M.Memory.at in
    (word_seen (seen_over at c.args.self.now) (seen_over at c.byte-first.new.self) (seen_over at c.byte-second.new.self) (seen_over at c.byte-third.new.self) (seen_over at c.byte-last.new.self) c.args.a c.spell_four.result c.byte-first.result c.byte-second.result c.byte-third.result c.byte-last.result c.ranges.a.fits c.spell_four.ensures
    c.byte-first.ensures.value c.byte-first.ensures.seen c.byte-second.ensures.value c.byte-second.ensures.seen c.byte-third.ensures.value c.byte-third.ensures.seen c.byte-last.ensures.value c.byte-last.ensures.seen).0

pub returns-clause-seen : goal.returns-clause-seen
returns-clause-seen g c =
    let at = g.M.Memory.at in
    (word_seen (seen_over at c.args.self.now) (seen_over at c.byte-first.new.self) (seen_over at c.byte-second.new.self) (seen_over at c.byte-third.new.self) (seen_over at c.byte-last.new.self) c.args.a c.spell_four.result c.byte-first.result c.byte-second.result c.byte-third.result c.byte-last.result c.ranges.a.fits c.spell_four.ensures
    c.byte-first.ensures.value c.byte-first.ensures.seen c.byte-second.ensures.value c.byte-second.ensures.seen c.byte-third.ensures.value c.byte-third.ensures.seen c.byte-last.ensures.value c.byte-last.ensures.seen).1
