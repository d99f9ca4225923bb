use Rattle.std.proofs.Common.{◌≡◌, ℕ, ◌+◌, ◌/◌, ◌%◌, ◌^◌, ◌<◌, ◌≤◌, length}
use Rattle.cells.specs.Bytes.{after_puts}
use Rattle.memory.specs.Pages.{place_in, byte_in, IsMade}
use Rattle.memory.proofs.plain.PlainMemory.put_across.Given as goal

abbrev pub invariant-loop-rest : goal.invariant-loop-rest
invariant-loop-rest l = record {
  to_do : after_puts (byte_in (place_in l.self.directory) l.self.pages.items) l.at l.rest ≡ after_puts (byte_in (place_in l.fn.self.directory) l.fn.self.pages.items) l.a l.bytes;
  made : (k : ℕ) → k < length l.rest → IsMade (place_in l.self.directory) l.self.pages.items ((l.at + k) % 2 ^ 32 / 4096);
  short : length l.rest ≤ 65536;
}

abbrev pub decreases-loop-rest : goal.decreases-loop-rest
decreases-loop-rest l = length l.rest
