-- One address after another is looked at.
use Rattle.std.proofs.Common.{ℕ, ◌+◌, ◌*◌, arith, refl}
use Rattle.layers.proofs.Rows.{least_more}
use Rattle.layers.proofs.line.Line.lesser_of_four.Goals as goal

pub returns : goal.returns
returns g c = λ p done agree h.
    let n = c.args.number in
    let i = c.args.i in
    let a : ℕ = 64 * c.args.number + c.args.i in
    let read = c.args.self.now.read in
    let f = g.M.Memory.at c.args.base.now in
    let m = g.M.Memory.at c.args.mem.now in
    least_more p done c.lesser-third.result c.lesser.result n (i + 3) (i + 4) (a + 3) read f m (omega arith) c.requires.number (omega arith) (omega arith) c.lesser.ensures (agree (i + 3) (omega arith))
    (least_more p done c.lesser-second.result c.lesser-third.result n (i + 2) (i + 3) (a + 2) read f m (omega arith) c.requires.number (omega arith) (omega arith) c.lesser-third.ensures (agree (i + 2) (omega arith))
    (least_more p done c.lesser-first.result c.lesser-second.result n (i + 1) (i + 2) (a + 1) read f m (omega arith) c.requires.number (omega arith) (omega arith) c.lesser-second.ensures (agree (i + 1) (omega arith))
    (least_more p done c.args.least c.lesser-first.result n i (i + 1) a read f m (omega arith) c.requires.number refl refl c.lesser-first.ensures (agree i (omega arith)) h)))
