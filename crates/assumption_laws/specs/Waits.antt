-- How Span is told by one position after another: anchors wait until a task from them has come to its end, or until the task
-- limit is past.
use Rattle.std.specs.Prelude.{ℕ, ◌+◌, ◌-◌, zero, suc, Bool, true, false, not, if◌then◌else◌, nat_eq, nat_lt, List, [], ◌∷◌, ◌++◌, map, Option, Some, None}
use Rattle.std.specs.List.{filter, list_any}
use Rattle.cells.specs.Run.{State}
use Rattle.dist_image.specs.Image.{Distilled}
use Rattle.image_semantics.specs.World.{task_machine, count_of}
use Rattle.fitting.specs.Fits.{is_anchor_pc}
use Rattle.fitting.specs.Fails.{arch_at, pc_at}
use Rattle.assumption_laws.specs.declared.Waiting.{Waiting}

-- at an arrival: those that it was the last one for are done
abbrev pub is_last : Waiting → Bool
is_last w = nat_eq w.left 1

-- one arrival fewer is left
abbrev pub lower : Waiting → Waiting
lower w = record { since = w.since; left = w.left - 1 }

-- the anchors that wait behind an arrival: those that had one left wait no more
abbrev pub lowered : List Waiting → List Waiting
lowered ws = map lower (filter (λ w. not (is_last w)) ws)

-- by a step: a stop ends all tasks
abbrev pub passed_on : Bool → Bool → List Waiting → List Waiting
passed_on true arrives ws = []
passed_on false true ws = lowered ws
passed_on false false ws = ws

-- an anchor at position j waits, where j is below a bound
abbrev pub joined : ℕ → ℕ → Option ℕ → List Waiting → List Waiting
joined bound j None ws = ws
joined bound j (Some count) ws = if nat_lt j bound then ws ++ record { since = j; left = count } ∷ [] else ws

-- whether one has waited for the whole limit
abbrev pub is_overdue : ℕ → ℕ → List Waiting → Bool
is_overdue limit j ws = list_any (λ (w : Waiting). nat_eq (w.since + limit) j) ws

module _ (start : State) (image : Distilled) (bound : ℕ) where
  -- the anchors below the bound that wait when the run comes to position j
  unfoldable pub waiting : ℕ → List Waiting
  waiting zero = []
  waiting (suc j) =
      passed_on ((task_machine image).stops (arch_at start j)) (is_anchor_pc image (pc_at start (suc j))) (joined bound j (count_of image (pc_at start j)) (waiting j))

  -- with the one at j
  abbrev pub at_hand : ℕ → List Waiting
  at_hand j = joined bound j (count_of image (pc_at start j)) (waiting j)

  abbrev pub overdue : ℕ → Bool
  overdue j = is_overdue image.limit j (at_hand j)
