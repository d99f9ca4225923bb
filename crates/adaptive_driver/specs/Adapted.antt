-- Runs of a speculative machine whose image is made anew of the run so far.
use Rattle.std.specs.Prelude.{◌≡◌, ℕ, ◌≤◌, ◌==◌, ◌&&◌, not, Bool, List}
use Rattle.cells.specs.Run.{is_over}
use Rattle.speculation.specs.Engine.{Model}
use Rattle.speculation_laws.specs.Told.{is_speculating}
use Rattle.memory.specs.declared.Memory.{Ghosts}
use Rattle.elf_reader.specs.Executable.{Executable}
use Rattle.seq_machine.specs.Parts.{start_of}
use Rattle.dist_image.specs.Image.{Distilled}
use Rattle.engine.specs.declared.engine.Engine.{Engine}
use Rattle.engine.specs.Whole.{start_of as engine_start, image_of, slaves_of, model_of}
use Rattle.adaptive_runs.specs.Adaptive.{Plan, Stage, model_at}
use Rattle.adapt.specs.Made.{Adapting, made}

-- the plan of such a run of a program with an input: where an image is due it is made of the steps so far
abbrev pub plan_of : Executable → List ℕ → (slaves every : ℕ) → (first : Distilled) → Plan
plan_of program input slaves every first = record {
  start = start_of program input;
  slaves = slaves;
  every = every;
  first = first;
  made = made program (start_of program input);
}

-- the plan of an engine and an adapter, from here on
abbrev pub plan_with : {M : Type 0} {d : Ghosts M} → (M → ℕ → ℕ) → Engine M d → Adapting → Plan
plan_with at e a = plan_of a.program a.input (slaves_of e) a.every (image_of e)

-- its models after each number of events
abbrev pub models_with : {M : Type 0} {d : Ghosts M} → (M → ℕ → ℕ) → Engine M d → Adapting → ℕ → Model
models_with at e a = model_at (plan_with at e a)

-- a round begins at this place, nothing is speculated on, and the run goes on
abbrev pub may_exchange_at : ℕ → Model → Bool
may_exchange_at place m = (place == 0) && not (is_speculating m.mode) && not (is_over m.committed)

-- where they stand
abbrev pub stage_of : {M : Type 0} {d : Ghosts M} → (M → ℕ → ℕ) → Engine M d → Adapting → Stage
stage_of at e a = record { model = model_of at e; image = image_of e; due = a.due }

-- they are of one run, and the adapter was asked for no position past the committed one
pub record AreOfOneRun {M : Type 0} {d : Ghosts M} (at : M → ℕ → ℕ) (e : Engine M d) (a : Adapting) : Type 0 where
  pub start : engine_start at e ≡ start_of a.program a.input
  pub asked : a.asked ≤ (model_of at e).position

-- two adapters of one run, with images as often
abbrev pub AreAlike : Adapting → Adapting → Type 0
AreAlike a b = (a.program ≡ b.program) × (a.input ≡ b.input) × (a.every ≡ b.every)
