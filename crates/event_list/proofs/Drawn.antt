-- Worked draws, from the generator of number 2.
use Rattle.std.proofs.Common.{◌≡◌, ℕ, List, [], ◌∷◌, map, refl}
use Rattle.rand_core.specs.Pcg32Seed.{pcg32_seed}
use Rattle.rand_core.specs.Steps.{word_bytes, u32_at}
use Rattle.rand_pcg.specs.Lcg.{Lcg}
use Rattle.rand_pcg.specs.Pcg.{pcg32}
use Rattle.speculation.specs.declared.Event.TheVariants.{Slave, Commit, Master, Restart}
use Rattle.event_list.specs.Draws.{generator_of, event_of_word, generator_after, drawn}

abbrev two : Lcg
two = record { state = 0x518d6167a8f5ad1f; increment = 0x7d77dee8e44efed }

first_word : (pcg32 two).0 ≡ 0x278c6ba8
first_word = refl

first_event : event_of_word 4 (pcg32 two).0 ≡ Slave 2
first_event = refl

second_event : event_of_word 4 (pcg32 (pcg32 two).1).0 ≡ Commit
second_event = refl

third_event : event_of_word 4 (pcg32 (pcg32 (pcg32 two).1).1).0 ≡ Master
third_event = refl

seeded_by_two : generator_of 2 ≡ two
unfolding pcg32_seed word_bytes u32_at
seeded_by_two = refl

-- four words of the numbers 0 and 1, and the first events of number 2 over four slaves, as other programs of the same generator give them
words_of : ℕ → List ℕ
words_of seed = map (λ k. (pcg32 (generator_after seed k)).0) (0 ∷ 1 ∷ 2 ∷ 3 ∷ [])

words_of_zero : words_of 0 ≡ 0x11cdd903 ∷ 0xfc843fd7 ∷ 0x140833d3 ∷ 0x3efaaf3e ∷ []
unfolding pcg32_seed word_bytes u32_at generator_after words_of
words_of_zero = refl

words_of_one : words_of 1 ≡ 0x33a70be6 ∷ 0x7dbcf3ee ∷ 0xcadf4751 ∷ 0x11ac71c0 ∷ []
unfolding pcg32_seed word_bytes u32_at generator_after words_of
words_of_one = refl

events_of_two : map (drawn 2 4) (0 ∷ 1 ∷ 2 ∷ 3 ∷ 4 ∷ 5 ∷ 6 ∷ 7 ∷ 8 ∷ 9 ∷ 10 ∷ 11 ∷ 12 ∷ 13 ∷ [])
    ≡ Slave 2 ∷ Commit ∷ Master ∷ Master ∷ Master ∷ Restart ∷ Master ∷ Slave 3 ∷ Slave 0 ∷ Restart ∷ Master ∷ Slave 3 ∷ Slave 3 ∷ Restart ∷ []
unfolding pcg32_seed word_bytes u32_at generator_after
events_of_two = refl
