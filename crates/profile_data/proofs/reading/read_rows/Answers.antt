-- Each row is the next of those that are still read, and goes last in the map.
use Rattle.std.proofs.Common.{◌≡◌, ◌+◌, ◌-◌, List, [], ◌∷◌, ◌++◌, length, sym, ap, subst, ◌∙◌, arith}
use Rattle.std.proofs.lemmas.Result.{err_from_is_err_and}
use Rattle.std.proofs.lemmas.List.Sums.{sum_by_push}
use Rattle.indexmap.specs.IndexMap.{values}
use Rattle.profile_data.specs.Profile.{Tally, target_count}
use Rattle.word_format.specs.Reading.{entries}
use Rattle.profile_data.specs.Reading.{next_row, rows_in}
use Rattle.word_format.proofs.Loop.{with_front, goes_on, fails, is_done}
use Rattle.profile_data.proofs.Lookup.{inserted}
use Rattle.profile_data.proofs.Rows.{row_is_new}
use Rattle.profile_data.proofs.reading.read_rows.Goals as goal

abbrev push : List Tally → Tally → List Tally
push before t = before ++ t ∷ []

pub returns-in_err-row-clause-gives : goal.returns-in_err-row-clause-gives
returns-in_err-row-clause-gives c =
    let p = err_from_is_err_and c.from_residual.result c.from_residual.ensures.1 in
    rw (p.1, p.2) (fails next_row push (values c.loop-number.rows) c.args.count c.loop-number.number (values c.loop-number.rows) c.loop-number.rest.now (rows_in c.args.count c.args.bytes.now) c.loop-number.invariant.read c.in_err-row.field-0.0 c.loop-number-test.true c.in_err-row.ensures)

pub loop-number-preserved : goal.loop-number-preserved
loop-number-preserved c =
    let t : Tally = c.in_ok-row.row in
    let before : List Tally = values c.loop-number.rows in
    let new = row_is_new c.loop-number.number before c.loop-number.rest.now (t, c.in_ok-row.after.now) c.in_ok-row.ensures in
    let more = inserted c.loop-number.rows c.insert.new.self c.row.inside.pc t c.loop-number.invariant.keyed (ap (λ (r : Tally). r.pc) c.row.view_is) new.0 c.in_ok-insert.ensures.entries in
    let listed : c.len-targets.result ≡ length t.targets = omega (arith, ap (λ (r : Tally). length r.targets) c.row.view_is) in
    let count : target_count (values c.insert.new.self) ≡ target_count before + length t.targets = ap target_count more.0 ∙ sum_by_push (λ (r : Tally). length r.targets) before t in
    record {
      read = subst (λ (ts : List Tally). with_front ts (entries next_row push (c.args.count - (c.loop-number.number + 1)) (c.loop-number.number + 1) ts c.in_ok-row.after.now) ≡ rows_in c.args.count c.args.bytes.now) (sym more.0)
          (goes_on next_row push before c.args.count c.loop-number.number before c.loop-number.rest.now (rows_in c.args.count c.args.bytes.now) c.loop-number.invariant.read t c.in_ok-row.after.now c.loop-number-test.true c.in_ok-row.ensures);
      keyed = more.1;
      targets = omega (arith, listed, count);
      few = omega (arith, listed, new.1);
    }

pub returns-clause-gives : goal.returns-clause-gives
returns-clause-gives c = is_done next_row push (values c.loop-number.rows) c.args.count c.loop-number.number (values c.loop-number.rows) c.loop-number.rest.now (rows_in c.args.count c.args.bytes.now) c.loop-number.invariant.read c.loop-number-test.false
