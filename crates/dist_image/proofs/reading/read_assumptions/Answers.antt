-- Each assumption is the next of those that are still read.
use Rattle.std.proofs.Common.{◌≡◌, ◌∷◌, ◌++◌, [], map}
use Rattle.std.proofs.lemmas.Result.{err_from_is_err_and}
use Rattle.std.proofs.lemmas.List.{map_push}
use Rattle.dist_image.specs.Image.{premise}
use Rattle.dist_image.specs.Reading.{next_premise, see_premise, premises_in}
use Rattle.dist_image.proofs.Counted.{few_targets}
use Rattle.word_format.proofs.Loop.{goes_on, fails, is_done}
use Rattle.dist_image.proofs.reading.read_assumptions.Goals as goal

pub returns-in_err-assumption : goal.returns-in_err-assumption
returns-in_err-assumption c =
    let p = err_from_is_err_and c.from_residual.result c.from_residual.ensures.1 in
    rw (p.1, p.2) (fails (next_premise c.args.version) see_premise (map premise c.loop-number.assumptions.items) c.args.count c.loop-number.number (c.loop-number.due, c.loop-number.targets) c.loop-number.rest.now (premises_in c.args.version c.args.count c.args.bytes.now) c.loop-number.invariant.read c.in_err-assumption.field-0.0 c.loop-number-test.true c.in_err-assumption.ensures)

pub loop-number-preserved : goal.loop-number-preserved
loop-number-preserved c =
    let more : map premise c.push.new.self.items ≡ map premise c.loop-number.assumptions.items ++ premise c.in_ok-assumption.assumption ∷ [] = rw c.in_ok-push.ensures.items (map_push premise c.loop-number.assumptions.items c.in_ok-assumption.assumption) in
    record {
      read = rw (more, c.key-due.ensures, c.targets.ensures) (goes_on (next_premise c.args.version) see_premise (map premise c.loop-number.assumptions.items) c.args.count c.loop-number.number (c.loop-number.due, c.loop-number.targets) c.loop-number.rest.now (premises_in c.args.version c.args.count c.args.bytes.now) c.loop-number.invariant.read (premise c.in_ok-assumption.assumption) c.in_ok-assumption.after.now c.loop-number-test.true c.in_ok-assumption.ensures);
      few = rw c.targets.ensures (few_targets c.args.version c.loop-number.number (c.loop-number.due, c.loop-number.targets) c.loop-number.rest.now (premise c.in_ok-assumption.assumption, c.in_ok-assumption.after.now) c.in_ok-assumption.ensures);
    }

pub returns : goal.returns
returns c = is_done (next_premise c.args.version) see_premise (map premise c.loop-number.assumptions.items) c.args.count c.loop-number.number (c.loop-number.due, c.loop-number.targets) c.loop-number.rest.now (premises_in c.args.version c.args.count c.args.bytes.now) c.loop-number.invariant.read c.loop-number-test.false
