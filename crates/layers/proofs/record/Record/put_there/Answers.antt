-- One byte after another, in the line that stays at its place.
use Rattle.std.proofs.Common.{ℕ, ◌≡◌, ◌/◌, ◌∙◌, subst, arith}
use Rattle.layers.specs.Lines.{put_at, IsPlace}
use Rattle.layers.proofs.Puts.{push_step}
use Rattle.layers.proofs.record.Record.put_there.Goals as goal

pub loop-v-preserved : goal.loop-v-preserved
loop-v-preserved c =
    let i = c.loop-v.v-index in
    let here : c.loop-v.to / 64 ≡ c.args.a / 64 = omega (arith, c.loop-v.invariant.to, c.requires.within) in
    record {
      puts = λ q. push_step c.args.bytes.now c.args.a i c.loop-v.to (put_at c.loop-v.self.lines) (put_at c.write.new.self) q (omega arith) c.loop-v.invariant.to c.write.ensures.puts ∙ c.loop-v.invariant.puts q;
      marks = λ q. c.write.ensures.reads q ∙ c.loop-v.invariant.marks q;
      to = omega arith;
      place = subst (λ (n : ℕ). IsPlace c.write.new.self n c.args.place) here c.write.ensures.place;
      writes = c.loop-v.invariant.writes;
      reads = c.loop-v.invariant.reads;
    }

pub write-requires : goal.write-requires
write-requires c =
    let here : c.args.a / 64 ≡ c.loop-v.to / 64 = omega (arith, c.loop-v.invariant.to, c.requires.within) in
    subst (λ (n : ℕ). IsPlace c.loop-v.self.lines n c.args.place) here c.loop-v.invariant.place
