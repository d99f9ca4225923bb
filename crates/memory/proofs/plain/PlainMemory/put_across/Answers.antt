use Rattle.std.proofs.Common.{arith, length, refl}
use Rattle.memory.specs.Pages.{place_in, byte_in, IsMade}
use Rattle.memory.proofs.Puts.{put_more, pages_more}
use Rattle.memory.proofs.plain.PlainMemory.put_across.Goals as goal

pub loop-rest-preserved : goal.loop-rest-preserved
loop-rest-preserved c = record {
  to_do = put_more (byte_in (place_in c.loop-rest.self.directory) c.loop-rest.self.pages.items) _ _ c.loop-rest.at _ c.min.result c.loop-rest.rest.now c.split_at.result.0.now c.split_at.result.1.now
      c.split_at.ensures.front c.split_at.ensures.back refl c.if-prove.ensures.written c.loop-rest.invariant.to_do;
  made = pages_more (IsMade (place_in c.loop-rest.self.directory) c.loop-rest.self.pages.items) (IsMade (place_in c.write-written.new.self.directory) c.write-written.new.self.pages.items)
      c.loop-rest.at _ (length c.split_at.result.0.now) (length c.loop-rest.rest.now) (length c.split_at.result.1.now)
      c.write-written.ensures.kept c.loop-rest.invariant.made refl (omega (arith, c.split_at.ensures.front_len, c.split_at.ensures.back_len));
  short = omega (arith, c.split_at.ensures.front_len, c.split_at.ensures.back_len, c.loop-rest.invariant.short);
}
