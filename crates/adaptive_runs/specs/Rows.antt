-- Worked rows: when images are exchanged in adaptive runs of the program of ten turns, over one slave. A round has eight events.
use Rattle.std.specs.Prelude.{◌≡◌, ℕ, ◌+◌, true, false, [], ◌∷◌, map, Option, Some, None}
use Rattle.rv_semantics.specs.Start.{start}
use Rattle.rv_semantics.specs.Programs.{ten_turns}
use Rattle.speculation.specs.declared.Mode.{Mode}
use Rattle.speculation.specs.declared.Mode.TheVariants.{Serial, Speculating}
use Rattle.speculation.specs.Engine.{fresh}
use Rattle.dist_image.specs.Image.{Distilled, nothing_known}
use Rattle.image_semantics.specs.Rows.{turns_image}
use Rattle.adaptive_runs.specs.Adaptive.{Plan, Stage, beside, ready, adapted, image_at}
use Rattle.adaptive_runs.specs.Laws.{IsPlan}

-- a plan over ten turns of a loop, with one slave
abbrev pub turning : ℕ → Distilled → (ℕ → Option Distilled) → Plan
turning every first made = record { start = start ten_turns []; slaves = 1; every = every; first = first; made = made }

-- the limit of an image shows at which position it was made; that of the first is 16
abbrev pub marked : ℕ → Option Distilled
marked position = Some (record turns_image { limit = 100 + position })

-- the limit of the image that is held before event k
abbrev pub limit_at : Plan → ℕ → ℕ
limit_at p k = (image_at p k).limit

-- something meets the premises of the laws
abbrev pub PlanIsMet : Type 0
PlanIsMet = IsPlan (turning 1 nothing_known (λ position. Some nothing_known)) 16

-- a round does one step: an image that is due from position 1 on comes with the first event of the second round, and not within
-- the first, where the run comes to that position; one that is due from 2 on doesn't come yet
pub record WaitsToBeDue : Type 0 where
  pub comes : map (limit_at (turning 1 nothing_known marked)) (0 ∷ 2 ∷ 7 ∷ 8 ∷ []) ≡ (16 ∷ 16 ∷ 16 ∷ 101 ∷ [])
  pub next : (adapted (turning 1 nothing_known marked) 9).due ≡ 2
  pub early : limit_at (turning 2 nothing_known marked) 8 ≡ 16

-- at position 5 in this mode, no image having come yet, where one is due from there on
abbrev pub standing : Mode → Stage
standing mode = record {
  model = record (fresh (beside (turning 1 nothing_known marked) nothing_known)) { position = 5; mode = mode };
  image = nothing_known;
  due = 5;
}

-- what becomes of it before event k
abbrev pub limit_before : ℕ → Mode → ℕ
limit_before k mode = (ready (turning 1 nothing_known marked) k (standing mode)).image.limit

-- it comes where a round begins in serial mode, with debt and without, and waits while tasks or the master are at work
pub record ComesWhileSerial : Type 0 where
  pub settled : limit_before 8 (Serial false) ≡ 105
  pub in_debt : limit_before 8 (Serial true) ≡ 105
  pub speculating : limit_before 8 Speculating ≡ 16
  pub inside : map (λ k. limit_before k (Serial false)) (9 ∷ 15 ∷ 16 ∷ 17 ∷ []) ≡ (16 ∷ 16 ∷ 105 ∷ 16 ∷ [])

-- where none is made the image stays, and the next is asked for so many steps later all the same
pub record StaysWhereNoneIsMade : Type 0 where
  pub image : limit_at (turning 1 nothing_known (λ position. None)) 8 ≡ 16
  pub next : (adapted (turning 1 nothing_known (λ position. None)) 9).due ≡ 2
