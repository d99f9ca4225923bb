-- Four bytes, one after another.
use Rattle.std.proofs.Common.{ℕ, ◌≡◌, ◌+◌, ◌/◌, ◌%◌, ◌^◌, subst, arith}
use Rattle.layers.specs.Layered.{seen_over}
use Rattle.layers.specs.Lines.{IsPlace}
use Rattle.layers.proofs.Cells.{word_seen}
use Rattle.layers.proofs.overlay.Overlay.mixed_word.Goals as goal

pub returns-clause-value : goal.returns-clause-value
returns-clause-value g c =
    let at = g.M.Memory.at in
    (word_seen (seen_over at c.args.self.now) (seen_over at c.byte_there-first.new.self) (seen_over at c.byte_there-second.new.self) (seen_over at c.byte_there-third.new.self) (seen_over at c.byte_there-last.new.self) c.args.a c.spell_four.result c.byte_there-first.result c.byte_there-second.result c.byte_there-third.result c.byte_there-last.result c.ranges.a.fits c.spell_four.ensures
    c.byte_there-first.ensures.value c.byte_there-first.ensures.seen c.byte_there-second.ensures.value c.byte_there-second.ensures.seen c.byte_there-third.ensures.value c.byte_there-third.ensures.seen c.byte_there-last.ensures.value c.byte_there-last.ensures.seen).0

pub returns-clause-seen : goal.returns-clause-seen
returns-clause-seen g c =
    let at = g.M.Memory.at in
    (word_seen (seen_over at c.args.self.now) (seen_over at c.byte_there-first.new.self) (seen_over at c.byte_there-second.new.self) (seen_over at c.byte_there-third.new.self) (seen_over at c.byte_there-last.new.self) c.args.a c.spell_four.result c.byte_there-first.result c.byte_there-second.result c.byte_there-third.result c.byte_there-last.result c.ranges.a.fits c.spell_four.ensures
    c.byte_there-first.ensures.value c.byte_there-first.ensures.seen c.byte_there-second.ensures.value c.byte_there-second.ensures.seen c.byte_there-third.ensures.value c.byte_there-third.ensures.seen c.byte_there-last.ensures.value c.byte_there-last.ensures.seen).1

pub byte_there-second-requires : goal.byte_there-second-requires
byte_there-second-requires g c =
    let here : c.args.a / 64 ≡ (c.args.a + 1) % 2 ^ 32 / 64 = omega (arith, c.requires.within, c.ranges.a.fits) in
    subst (λ (n : ℕ). IsPlace c.byte_there-first.new.self.kept.lines n c.args.place) here c.byte_there-first.ensures.place

pub byte_there-third-requires : goal.byte_there-third-requires
byte_there-third-requires g c =
    let here : (c.args.a + 1) % 2 ^ 32 / 64 ≡ (c.args.a + 2) % 2 ^ 32 / 64 = omega (arith, c.requires.within, c.ranges.a.fits) in
    subst (λ (n : ℕ). IsPlace c.byte_there-second.new.self.kept.lines n c.args.place) here c.byte_there-second.ensures.place

pub byte_there-last-requires : goal.byte_there-last-requires
byte_there-last-requires g c =
    let here : (c.args.a + 2) % 2 ^ 32 / 64 ≡ (c.args.a + 3) % 2 ^ 32 / 64 = omega (arith, c.requires.within, c.ranges.a.fits) in
    subst (λ (n : ℕ). IsPlace c.byte_there-third.new.self.kept.lines n c.args.place) here c.byte_there-third.ensures.place
