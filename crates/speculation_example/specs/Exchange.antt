-- The small machine with no image in its first round, and with its own from the second on.
use Rattle.std.specs.Prelude.{◌≡◌, ℕ, ◌*◌, ◌<◌, false, cond, nat_lt, None}
use Rattle.speculation.specs.World.{World, seq}
use Rattle.speculation.specs.Engine.{Model}
use Rattle.squash_laws.specs.Image.{Image, begin_at, drive_of}
use Rattle.speculation_schedules.specs.Schedule.{in_rounds, has_come}
use Rattle.speculation_schedules.specs.Exchanges.{after_each}
use Rattle.speculation_example.specs.Small.{small_image, small_words}
use Rattle.speculation_example.specs.Laws.{small}

-- no anchor, so nothing starts
abbrev pub no_image : Image
no_image = record small_image { slots = λ k. None; has = λ pc. false }

-- the world without anchors
abbrev pub unanchored : World
unanchored = record small { anchor = λ pc. None }

-- the same, and without a master
abbrev pub plain : World
plain = record unanchored { begin = begin_at unanchored no_image; drive = drive_of unanchored small_words no_image }

-- a round over two slaves has nine events
abbrev pub exchanged : ℕ → World
exchanged k = cond (nat_lt k 9) plain small

-- the model after k events, the world being exchanged
abbrev pub exchanged_after : ℕ → Model
exchanged_after = after_each exchanged (in_rounds 2)

-- its state is the run's
abbrev pub ExchangedIsSequential : Type 0
ExchangedIsSequential = (k : ℕ) → (exchanged_after k).committed ≡ seq small (exchanged_after k).position

-- it comes to its end
abbrev pub ExchangedComes : Type 0
ExchangedComes = (far k : ℕ) → has_come far (exchanged_after k) ≡ false → k < 47 * far * 9
