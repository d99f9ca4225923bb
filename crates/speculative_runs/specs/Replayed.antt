-- What the events of a list put, one after the other.
use Rattle.std.specs.Prelude.{◌≡◌, ℕ, List, ◌++◌}
use Rattle.std.specs.List.{flat_map}
use Rattle.cells.specs.Run.{State, iterate}
use Rattle.rv_semantics.specs.Calls.{step}
use Rattle.speculation.specs.declared.Event.{Event}
use Rattle.speculation.specs.World.{World}
use Rattle.speculation.specs.Engine.{Model, run, effects, fresh}
use Rattle.report.specs.Events.{effect_line, summary_text}

-- the lines of what events do, one after the other, from a model on
abbrev pub lines_of : World → List Event → Model → List ℕ
lines_of w es m = flat_map effect_line (effects w es m)

-- the lines of what all events do, the lines that sum it up, and the committed output
abbrev pub replay_bytes : World → List Event → List ℕ
replay_bytes w es =
    let last = run w es (fresh w) in
    lines_of w es (fresh w) ++ (summary_text last ++ last.committed.env.output)

-- what is summed up and committed last is the sequential run from this state, at the position that is told
abbrev pub IsOfTheRun : State → World → List Event → Type 0
IsOfTheRun start w es =
    let last = run w es (fresh w) in
    last.committed ≡ iterate step start last.position
