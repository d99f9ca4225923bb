-- Three whole cases: with these images no list of events squashes a task of the program that exits with 7, of one that
-- prints, and of one that loads.
use Rattle.std.specs.Prelude.{◌≡◌, ℕ, List, [], ◌∷◌}
use Rattle.cells.specs.Run.{State}
use Rattle.speculation.specs.declared.Effect.TheVariants.{Stepped, Done, Started}
use Rattle.speculation.specs.declared.Ending.TheVariants.{Met}
use Rattle.speculation.specs.declared.Event.{Event}
use Rattle.speculation.specs.declared.Event.TheVariants.{Serial as SerialEvent, Slave, Restart}
use Rattle.speculation.specs.Engine.{happens, fresh, effects}
use Rattle.squash_laws.specs.Tracks.{IsSafe}
use Rattle.rv_semantics.specs.Start.{start}
use Rattle.rv_semantics.specs.Programs.{frame, exit_7, hello}
use Rattle.dist_image.specs.declared.image.Slot.TheVariants.{Exec, Fork}
use Rattle.dist_image.specs.Image.{Code, Within, Span, Same, Distilled, IsImage}
use Rattle.image_semantics.specs.World.{world}
use Rattle.fitting.specs.Fits.{Fits}
use Rattle.fitting.specs.Fails.{program, Meets}
use Rattle.fitting.specs.Rows.{anchor, note}
use Rattle.fitting_laws.specs.Laws.{after_events}

-- the start of the program that exits with 7
abbrev pub exiting : State
exiting = start exit_7 []

-- a task begins at the call, which ends the run
abbrev pub exit_image : Distilled
exit_image = record {
  version = 1;
  limit = 16;
  slots = Fork 0 ∷ Exec 0x00010008 0x00000073 ∷ [];
  anchors = anchor 0x00010008 0 1 ∷ [];
  notes = note 0x00010008 0 0 0 ∷ [];
  assumptions = Code ∷ Within ∷ Span ∷ [];
  writes = [];
}

-- a program that prints: a task begins at the call that prints, does it, and meets the call that ends the run
abbrev pub greeting : State
greeting = start hello []

-- an image of the greeting whose task does the call
abbrev pub greeting_image : Distilled
greeting_image = record {
  version = 2;
  limit = 16;
  slots = Fork 0 ∷ Exec 0x00010014 0x00000073 ∷ Exec 0x00010020 0x00000073 ∷ [];
  anchors = anchor 0x00010014 0 1 ∷ [];
  notes = note 0x00010014 0 0x21c00 0x21c00 ∷ note 0x00010018 2 0 0 ∷ note 0x0001001c 2 0 0 ∷ note 0x00010020 2 0 0 ∷ [];
  assumptions = Code ∷ Within ∷ Span ∷ [];
  writes = 0x00010014 ∷ [];
}

-- a program that loads a word, which is 0, and exits with it: a task begins at the load, whose register the master sets to 0
abbrev pub reading : State
reading = start (frame (0x000203B7 ∷ 0x0003A503 ∷ 0x05D00893 ∷ 0x00000073 ∷ [])) []

-- an image of a program that reads between its writes
abbrev pub reading_image : Distilled
reading_image = record {
  version = 2;
  limit = 16;
  slots = Fork 0 ∷ Exec 0x00010004 0x00000513 ∷ Exec 0x0001000c 0x00000073 ∷ [];
  anchors = anchor 0x00010004 0 1 ∷ [];
  notes = note 0x00010004 0 0x80 0x80 ∷ note 0x00010008 2 0 0 ∷ note 0x0001000c 2 0 0 ∷ [];
  assumptions = Code ∷ Within ∷ Span ∷ Same 0x00010004 0 ∷ [];
  writes = [];
}

-- all that the laws ask for, to the end of the run
pub record IsMet (start : State) (image : Distilled) (n : ℕ) : Type 0 where
  pub valid : IsImage image
  pub fits : Fits (program start) image
  pub meets : Meets start image n

-- whatever the events, the next one squashes no task and gives none up
abbrev pub IsAlwaysSafe : State → Distilled → Type 0
IsAlwaysSafe start image = (es : List Event) (e : Event) → IsSafe (happens (world start image 1) (after_events start image 1 es) e).0

-- the call that prints is no stop: the task prints and goes on
abbrev pub TaskPrints : Type 0
TaskPrints =
    effects (world greeting greeting_image 1) (SerialEvent ∷ SerialEvent ∷ SerialEvent ∷ SerialEvent ∷ SerialEvent ∷ Restart ∷ Slave 0 ∷ Slave 0 ∷ Slave 0 ∷ Slave 0 ∷ [])
    (fresh (world greeting greeting_image 1))
    ≡ (Stepped ∷ Stepped ∷ Stepped ∷ Stepped ∷ Stepped ∷ Started 0x00010014 ∷ Stepped ∷ Stepped ∷ Stepped ∷ Done Met ∷ [])
