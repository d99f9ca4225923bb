-- What a run comes to where a speculative machine runs and a report is asked for.
use Rattle.std.specs.Prelude.{◌≡◌, ℕ, ◌+◌, ◌<◌, List, Option, Some, None}
use Rattle.outside.specs.Answers.{Gains}
use Rattle.outside.specs.Files.{Files}
use Rattle.speculation.specs.declared.Event.{Event}
use Rattle.speculation.specs.World.{World}
use Rattle.speculation.specs.Engine.{Model}
use Rattle.speculation_schedules.specs.Schedule.{in_rounds, alone, after, IsFirstStop, enough}
use Rattle.speculation_schedules.specs.Laws.{StopsAt}
use Rattle.memory.specs.declared.Memory.{Ghosts}
use Rattle.engine.specs.declared.engine.Engine.{Engine}
use Rattle.engine.specs.Whole.{slaves_of, world_of}
use Rattle.report.specs.Events.{summary_text}
use Rattle.answers.specs.declared.answer.Source.TheVariants as source
use Rattle.answers.specs.declared.answer.Answer.{Answer}
use Rattle.answers.specs.declared.answer.Answer.TheVariants.{StoreFault, Ran, Budget}
use Rattle.speculative_runs.specs.declared.speculating.Schedule.{Schedule}
use Rattle.speculative_runs.specs.declared.speculating.Schedule.TheVariants.{Rounds, Alone}
use Rattle.speculative_runs.specs.Told.{Reads, Puts, Got, Written, NotWritten}
use Rattle.speculative_runs.specs.Driven.{stands, CutOff}

-- rounds where an image is named, and else serial steps alone
abbrev pub schedule_of : Option (List ℕ) → Schedule
schedule_of (Some image) = Rounds
schedule_of None = Alone

-- the events of a schedule
abbrev pub events_of : Schedule → ℕ → ℕ → Event
events_of Rounds slaves = in_rounds slaves
events_of Alone slaves = alone

-- the models of an engine that has had no event, after each number of the events of a schedule
abbrev pub models_of : {M : Type 0} {d : Ghosts M} → (M → ℕ → ℕ) → Schedule → Engine M d → ℕ → Model
models_of at s e = after (world_of at e) (events_of s (slaves_of e))

-- so many events are enough to come so far
abbrev pub most : Schedule → World → ℕ → ℕ
most Rounds w far = enough w far
most Alone w far = far

-- all of the output was put, the report was written, and this is where the machine stands
abbrev pub Completed : Model → List ℕ → Reads → Option Files → Puts → Answer → Type 0
Completed m name store left out a = Got out m.committed.env.output × Written store.told left name (summary_text m) × (a ≡ stands m.committed)

-- the report was not written
abbrev pub Unwritten : Reads → Option Files → List ℕ → Answer → Type 0
Unwritten store left name a = NotWritten source.Report store left name a

-- the machine stopped so: it completed; or all was put, and the report could not be written; or it was cut off, and no file has changed
abbrev pub Stopped : Model → List ℕ → Reads → Option Files → Puts → Answer → Type 0
Stopped m name store left out (Ran pc end) = Completed m name store left out (Ran pc end)
Stopped m name store left out Budget = Completed m name store left out Budget
Stopped m name store left out (StoreFault s) = Got out m.committed.env.output × Unwritten store left name (StoreFault s)
Stopped m name store left out a = CutOff out m.committed.env.output a × (left ≡ store.told)

-- k is the least number of events after which it has ended or stands at the budget or past it. It stands there where the sequential run stands, within
-- the longest task of the budget; and the sequential run ends within the budget exactly where it has ended
pub record IsStop (w : World) (models : ℕ → Model) (budget k : ℕ) : Type 0 where
  pub first : IsFirstStop models budget k
  pub sequential : StopsAt w models budget k
  pub near : (models k).position < budget + 16384

-- the machine came to its stop: this is its model there, and all of its output was put
abbrev pub Came : World → (ℕ → Model) → ℕ → Model → Option (List ℕ) → Option (List ℕ) → Type 0
Came w models budget m told left = (k : ℕ) × IsStop w models budget k × (m ≡ models k) × Gains told left (models k).committed.env.output

-- it was cut off, and a part of the output at its stop was put
abbrev pub CutShort : World → (ℕ → Model) → ℕ → Puts → Answer → Type 0
CutShort w models budget out a = (k : ℕ) × IsStop w models budget k × CutOff out (models k).committed.env.output a

-- the machine is given the events up to that point, and stopped so; these are its models after each number of events
abbrev pub Speculated : World → (ℕ → Model) → ℕ → List ℕ → Reads → Option Files → Puts → Answer → Type 0
Speculated w models budget name store left out a = (k : ℕ) × IsStop w models budget k × Stopped (models k) name store left out a
