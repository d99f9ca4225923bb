-- The bytes of each row follow those of the rows before.
use Rattle.profile_data.proofs.Appended.{rows_put}
use Rattle.profile_data.proofs.writing.put_rows.Goals as goal

pub loop-row-preserved : goal.loop-row-preserved
loop-row-preserved c = rows_put c.args.out.now.items c.loop-row.out.items c.put_row.new.out.items c.args.rows.now c.loop-row.row-index c.row-item.result c.loop-row-test.true c.row-item.is c.loop-row.invariant c.in_ok-put_row.ensures
