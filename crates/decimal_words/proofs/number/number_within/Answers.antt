-- What the definition gives is spelled.
use Rattle.std.proofs.Common.{sym, subst, arith}
use Rattle.decimal_words.specs.Number.{IsSpelled}
use Rattle.decimal_words.proofs.Numerals.{is_spelled, in_range}
use Rattle.decimal_words.proofs.number.number_within.Goals as goal

pub returns-clause-spelled : goal.returns-clause-spelled
returns-clause-spelled c =
    subst (IsSpelled c.args.least c.args.most c.args.word.now) (sym c.numeral_within.ensures)
    (is_spelled c.args.least c.args.most c.args.word.now (let fits = c.ranges.most.fits in omega (arith, fits)))

pub returns-clause-range : goal.returns-clause-range
returns-clause-range c =
    in_range c.args.least c.args.most c.args.word.now c.numeral_within.result
    (subst (IsSpelled c.args.least c.args.most c.args.word.now) (sym c.numeral_within.ensures)
    (is_spelled c.args.least c.args.most c.args.word.now (let fits = c.ranges.most.fits in omega (arith, fits))))
