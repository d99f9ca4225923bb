-- The addresses so far, with those that are still read, are all addresses.
use Rattle.std.proofs.Common.{◌≡◌, ℕ, ◌+◌, ◌-◌}
use Rattle.word_format.specs.Reading.{entries, next_address, addresses_in}
use Rattle.word_format.proofs.Loop.{with_front}
use Rattle.word_format.proofs.addresses.read_addresses.Given as goal

abbrev pub invariant-loop-number : goal.invariant-loop-number
invariant-loop-number l = with_front l.addresses.items (entries {S = ℕ} next_address (λ _ a. a + 1) (l.count - l.number) l.number l.due l.rest) ≡ addresses_in l.count l.bytes
