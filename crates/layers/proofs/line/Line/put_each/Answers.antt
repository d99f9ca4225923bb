-- One address after another is put.
use Rattle.std.proofs.Common.{ℕ, ◌+◌, ◌*◌, Some, arith, refl}
use Rattle.std.proofs.lemmas.Result.{on_ok_weaker}
use Rattle.layers.specs.Lines.{put_in}
use Rattle.layers.proofs.Rows.{filled_more}
use Rattle.layers.proofs.line.Line.put_each.Goals as goal

pub returns : goal.returns
returns g c = λ old h.
    let n = c.args.number in
    let i = c.args.i in
    let a : ℕ = 64 * c.args.number + c.args.i in
    let put = put_in (Some c.args.self.now) in
    let at = g.M.Memory.at in
    let first = filled_more put (at c.args.mem.now) (at c.put_at.new.mem) old n i (i + 1) a (omega arith) refl refl h c.in_ok-put_at.ensures in
    let second = filled_more put (at c.put_at.new.mem) (at c.put_at-2.new.mem) old n (i + 1) (i + 2) (a + 1) (omega arith) (omega arith) (omega arith) first c.in_ok-put_at-2.ensures in
    let third = filled_more put (at c.put_at-2.new.mem) (at c.put_at-3.new.mem) old n (i + 2) (i + 3) (a + 2) (omega arith) (omega arith) (omega arith) second c.in_ok-put_at-3.ensures in
    on_ok_weaker c.put_at-4.result
    (λ is. filled_more put (at c.put_at-3.new.mem) (at c.put_at-4.new.mem) old n (i + 3) (i + 4) (a + 3) (omega arith) (omega arith) (omega arith) third is)
    c.put_at-4.ensures
