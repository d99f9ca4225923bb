use Rattle.std.proofs.Common.{take, drop, length, ◌-◌, ◌≤◌, ◌≡◌, ◌++◌, ◌+◌, subst, ap, sym, ◌∙◌, arith}
use Rattle.std.proofs.KnownBytes.{Appends-trans}
use Rattle.std.proofs.Math.Seq.{take-add}
use Rattle.std.proofs.lemmas.Grind.{common_steps}
use Rattle.std.proofs.lemmas.List.{take_rest}
use Rattle.std.specs.Io.KnownBytes.{Appends}
use Rattle.devices.proofs.moves.write_whole.Goals as goal

pub loop-done-preserved : goal.loop-done-preserved
loop-done-preserved g c =
    let bytes = c.args.bytes.now in
    let done = c.loop-done.done in
    let count = c.in_ok-count.count in
    let fits : done + count ≤ length bytes = grind (arith, common_steps) in
    let joined : take done bytes ++ take count (take (length bytes - done) (drop done bytes)) ≡ take (done + count) bytes =
    ap (λ r. take done bytes ++ take count r) (take_rest bytes done) ∙ sym (take-add done count bytes) in
    (fits, subst (Appends (g.W.Write.contents c.args.to.now) (g.W.Write.contents c.write.new.self)) joined (Appends-trans _ _ _ _ _ c.loop-done.invariant.1 c.in_ok-count.ensures.bytes))
