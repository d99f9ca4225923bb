use Rattle.std.proofs.Common.{◌≡◌, ℕ, ◌+◌, ◌/◌, ◌%◌, ◌^◌, ◌<◌}
use Rattle.memory.specs.Pages.{place_in, byte_in, IsMade}
use Rattle.memory.proofs.plain.PlainMemory.make_pages.Given as goal

abbrev pub invariant-loop-k : goal.invariant-loop-k
invariant-loop-k l = record {
  same : byte_in (place_in l.self.directory) l.self.pages.items ≡ byte_in (place_in l.fn.self.directory) l.fn.self.pages.items;
  made : (j : ℕ) → j < l.k → IsMade (place_in l.self.directory) l.self.pages.items ((l.a / 4096 + j) % 2 ^ 20);
}
