-- What a task's view means to the one who commits the task.
use Rattle.std.specs.Prelude.{◌≡◌, ℕ, ◌≤◌, ◌==◌, if◌then◌else◌, length, is_some}
use Rattle.cells.specs.declared.Cell.{Cell}
use Rattle.cells.specs.Cells.{from_cells}
use Rattle.cells.specs.Task.{apply}
use Rattle.speculation.specs.World.{World}
use Rattle.speculation.specs.Task.{record_of}
use Rattle.rv_semantics.specs.Bounded.{IsAmong}
use Rattle.dist_image.specs.Image.{Distilled, IsImage}
use Rattle.layers.specs.Layered.{laid}
use Rattle.slave.specs.Task.{Shown, modelled, Shows, IsTaskOf}

-- what the view lays over a state is what the definition applies to it
abbrev pub CommitsApply : Type 0
CommitsApply =
    (w : World) (k : Shown) → Shows w k → (f : Cell → ℕ)
    → from_cells (laid k.pc k.seen f) ≡ apply w.machine (from_cells k.seen.base) k.steps (from_cells f)

-- the view's record is the definition's, so the first differing cell is, too
abbrev pub RecordsAgree : Type 0
RecordsAgree = (w : World) (k : Shown) → Shows w k → k.seen.recorded ≡ record_of w (modelled k)

-- how many cells a task of an image of this version records beside the pc, and how many bytes it prints: ten cells, or 264, and
-- 256 bytes at each of the greatest number of steps
abbrev pub most_recorded : ℕ → ℕ
most_recorded version = if version == 1 then 163_840 else 1_081_344

-- the most bytes that a task prints: 4,096 steps of 256 bytes, and nothing in version 1
abbrev pub most_printed : ℕ → ℕ
most_printed version = if version == 1 then 0 else 1_048_576

-- a task has recorded and printed no more than its image's version allows
abbrev pub IsSmall : Distilled → Shown → Type 0
IsSmall image k = IsAmong (λ x. is_some (k.seen.recorded x)) (most_recorded image.version) × (length k.output ≤ most_printed image.version)

-- each task is small
abbrev pub TasksAreSmall : Type 0
TasksAreSmall = (image : Distilled) → IsImage image → (k : Shown) → IsTaskOf image k → IsSmall image k
