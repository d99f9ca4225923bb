-- Four bytes that were put are put at once.
use Rattle.std.proofs.Common.{◌+◌, ◌*◌, Some, None, cond, ap, refl}
use Rattle.std.specs.Prelude.{slice_index}
use Rattle.std.proofs.lemmas.Result.{on_ok_weaker}
use Rattle.layers.specs.Lines.{put_in}
use Rattle.layers.proofs.Rows.{filled_all}
use Rattle.layers.proofs.line.Line.put_all.Goals as goal

pub returns : goal.returns
returns g c = λ old h.
    let n = c.args.number in
    let i = c.args.i in
    let bytes = c.args.self.now.bytes in
    let at = g.M.Memory.at in
    on_ok_weaker c.put.result
    (λ is. filled_all (put_in (Some c.args.self.now)) (slice_index bytes) (at c.args.mem.now) (at c.put.new.self) old n i (64 * c.args.number + c.args.i) c.requires.within c.requires.number refl
    (λ j e. ap (λ b. cond b (Some (slice_index bytes j)) None) (c.requires.all j e)) h is)
    c.put.ensures.ok
