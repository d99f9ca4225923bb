-- Four bytes were put in that line alone.
use Rattle.std.proofs.Common.{rules, ap, ◌∙◌, ◌+◌, ◌%◌, cond, Some, get_or}
use Rattle.std.specs.Prelude.{nat_eq}
use Rattle.layers.proofs.Changes.{put_four_at, reads_at_stay}
use Rattle.layers.proofs.lines.Lines.write_four.Goals as goal

pub returns-clause-puts : goal.returns-clause-puts
returns-clause-puts c =
    let e = c.pair_mut-line.ensures in
    let vs = c.args.bytes in
    put_four_at c.args.self.now c.args.a c.args.place c.ranges.a.fits e.unique c.requires.place _ _ c.write-4.new.self e.value c.requires.within vs (search rules)
    (λ j. c.write-4.ensures.puts j ∙ ap (cond (nat_eq (c.args.a % 64 + 3) j) (Some (get_or vs 3 0))) (c.write-3.ensures.puts j ∙ ap (cond (nat_eq (c.args.a % 64 + 2) j) (Some (get_or vs 2 0))) (c.write-2.ensures.puts j ∙ ap (cond (nat_eq (c.args.a % 64 + 1) j) (Some (get_or vs 1 0))) (c.write.ensures.puts j))))

pub returns-clause-reads : goal.returns-clause-reads
returns-clause-reads c =
    let e = c.pair_mut-line.ensures in
    reads_at_stay c.args.self.now c.args.a c.args.place c.ranges.a.fits e.unique c.requires.place _ _ c.write-4.new.self e.value (c.write-4.ensures.read ∙ c.write-3.ensures.read ∙ c.write-2.ensures.read ∙ c.write.ensures.read)
