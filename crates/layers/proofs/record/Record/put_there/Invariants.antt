-- What was put on the way, with the bytes still to come, is what will be put.
use Rattle.std.proofs.Common.{◌≡◌, ◌+◌, ◌/◌, ◌%◌, ◌^◌, ℕ, drop}
use Rattle.layers.specs.Lines.{put_at, is_read, at_puts, IsPlace}
use Rattle.layers.proofs.record.Record.put_there.Given as goal

abbrev pub invariant-loop-v : goal.invariant-loop-v
invariant-loop-v l = record {
  puts : (q : ℕ) → at_puts (l.a + l.v-index) (drop l.v-index l.bytes) (put_at l.self.lines) q ≡ at_puts l.a l.bytes (put_at l.fn.self.lines) q;
  marks : (q : ℕ) → is_read l.self.lines q ≡ is_read l.fn.self.lines q;
  to : l.to ≡ (l.a + l.v-index) % 2 ^ 32;
  place : IsPlace l.self.lines (l.a / 64) l.place;
  writes : l.self.writes ≡ l.fn.self.writes;
  reads : l.self.reads ≡ l.fn.self.reads;
}
