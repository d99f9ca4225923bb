-- The lines of the engine's effects, and the lines that sum up what it did.
use Rattle.std.specs.Prelude.{ℕ, List, [], ◌∷◌, ◌++◌, length, codes, decimal, Option, Some, None}
use Rattle.cells.specs.declared.Cell.{Cell}
use Rattle.cells.specs.declared.Cell.TheVariants.{Pc, Reg, Byte}
use Rattle.cells.specs.declared.Differ.{Differ}
use Rattle.cells.specs.declared.End.{End}
use Rattle.speculation.specs.declared.Counts.{Counts}
use Rattle.speculation.specs.declared.Effect.{Effect}
use Rattle.speculation.specs.declared.Effect.TheVariants.{Moved, Forked, Stalled, Halted, Stepped, Done, Committed, Squashed, Ended, Started, Idle}
use Rattle.speculation.specs.declared.Ending.{Ending}
use Rattle.speculation.specs.declared.Ending.TheVariants.{Reached, Met, Full}
use Rattle.speculation.specs.declared.Why.{Why}
use Rattle.speculation.specs.declared.Why.TheVariants.{Call, Trap, Lost, Spent}
use Rattle.speculation.specs.Engine.{Model}
use Rattle.report.specs.Text.{hex_word, line, end_words}

-- why the master halted, and how a task was done
abbrev pub why_word : Why → List ℕ
why_word Call = codes "call"
why_word Trap = codes "trap"
why_word Lost = codes "lost"
why_word Spent = codes "spent"

-- the word for an ending of a task
abbrev pub ending_word : Ending → List ℕ
ending_word Reached = codes "reached"
ending_word Met = codes "met"
ending_word Full = codes "full"

-- the words for a cell
abbrev pub cell_words : Cell → List (List ℕ)
cell_words Pc = codes "pc" ∷ []
cell_words (Reg n) = (codes "x" ++ decimal n) ∷ []
cell_words (Byte a) = codes "byte" ∷ hex_word a ∷ []

-- the words for a cell that differs, with its two values
abbrev pub differ_words : Differ → List (List ℕ)
differ_words d = cell_words d.cell ++ codes "predicted" ∷ hex_word d.predicted ∷ codes "found" ∷ hex_word d.found ∷ []

-- the line of an effect
abbrev pub effect_line : Effect → List ℕ
effect_line Moved = line (codes "moved") []
effect_line (Forked number) = line (codes "forked") (decimal number ∷ [])
effect_line Stalled = line (codes "stalled") []
effect_line (Halted why) = line (codes "halted") (why_word why ∷ [])
effect_line Stepped = line (codes "stepped") []
effect_line (Done ending) = line (codes "done") (ending_word ending ∷ [])
effect_line (Committed steps dropped) = line (codes "committed") (decimal steps ∷ codes "dropped" ∷ decimal dropped ∷ [])
effect_line (Squashed differ) = line (codes "squashed") (differ_words differ)
effect_line (Ended end) = line (codes "ended") (end_words end)
effect_line (Started pc) = line (codes "started") (hex_word pc ∷ [])
effect_line Idle = line (codes "idle") []

-- the words for how a run ended, if it did
abbrev pub over_words : Option End → List (List ℕ)
over_words (Some end) = end_words end
over_words None = codes "none" ∷ []

-- the lines of the counts at a position
abbrev pub counts_text : ℕ → Counts → List ℕ
counts_text position c =
    line (codes "position") (decimal position ∷ [])
    ++ (line (codes "tasks") (decimal c.tasks ∷ [])
    ++ (line (codes "by-tasks") (decimal c.by_tasks ∷ [])
    ++ (line (codes "serial") (decimal c.serial ∷ [])
    ++ (line (codes "squashed") (decimal c.squashed ∷ [])
    ++ line (codes "dropped") (decimal c.dropped ∷ [])))))

-- the lines for how the run ended, and how many bytes it put out
abbrev pub outcome_text : Option End → ℕ → List ℕ
outcome_text over bytes = line (codes "end") (over_words over) ++ line (codes "output") (decimal bytes ∷ [])

-- the summary of a run that speculated
abbrev pub summary_text : Model → List ℕ
summary_text m = counts_text m.position m.counts ++ outcome_text m.committed.env.over (length m.committed.env.output)
