-- What is known of a run once it was looked at up to a position.
use Rattle.std.specs.Prelude.{◌≡◌, ℕ, ◌+◌, ◌<◌, ◌≤◌, min, suc, nat_lt, not, ◌&&◌, ◌||◌, if◌then◌else◌, Bool, false, true, List, [], length, Option, Some, None, ◌⊎◌}
use Rattle.cells.specs.Run.{State, is_end, is_over}
use Rattle.memory.specs.declared.Memory.{Ghosts}
use Rattle.seq_machine.specs.declared.machine.Machine.{Machine}
use Rattle.seq_machine.specs.States.{state_of}
use Rattle.dist_image.specs.Image.{Premise, Span, Distilled}
use Rattle.image_semantics.specs.World.{count_of}
use Rattle.fitting.specs.Fits.{is_anchor_pc}
use Rattle.fitting.specs.Fails.{state_at}
use Rattle.assumption_laws.specs.declared.Waiting.{Waiting}
use Rattle.assumption_laws.specs.Looks.{first_failing, span_fails}
use Rattle.assumption_laws.specs.Waits.{passed_on, joined, is_overdue, waiting}
use Rattle.assumption_laws.specs.Laws.{IsSearched}
use Rattle.assume_list.specs.declared.verdict.Verdict.{Verdict}
use Rattle.assume_list.specs.declared.verdict.Verdict.TheVariants.{Broken}
use Rattle.assume_list.specs.declared.passing.Passed.{Passed}
use Rattle.assume_list.specs.declared.passing.Passed.TheVariants.{Late, Failed, Through}
use Rattle.assume_list.specs.declared.passing.Asked.{Asked}
use Rattle.assume_list.specs.declared.passing.Turn.{Turn}
use Rattle.assume_list.specs.declared.waits.Waits.{Waits}
use Rattle.assume_list.specs.declared.watch.Watch.{Watch}
use Rattle.assume_list.specs.Shown.{shown}

-- the anchors that wait were `old`. One has waited for the whole limit since position i, or they go on to wait by a step
abbrev pub HasTurned : ℕ → ℕ → ℕ → Option ℕ → Bool → Bool → List Waiting → List Waiting → Option ℕ → Type 0
HasTurned limit bound position here stops arrives old new None =
    (is_overdue limit position (joined bound position here old) ≡ false) × (new ≡ passed_on stops arrives (joined bound position here old))
HasTurned limit bound position here stops arrives old new (Some i) = (i + limit ≡ position) × (is_overdue limit position (joined bound position here old) ≡ true)

-- where the assumption of number k is the first but Span that fails at a position: below which position Span is asked about. It is
-- asked about there too where it is listed before
abbrev pub asked_below : ℕ → ℕ → ℕ → ℕ
asked_below k span position = if nat_lt span k then position + 1 else position

-- only the anchors are waited for at which Span is asked about
abbrev pub bound_after : Option ℕ → ℕ → ℕ → ℕ → ℕ
bound_after None span bound position = bound
bound_after (Some k) span bound position = min bound (asked_below k span position)

-- whether an assumption is Span
abbrev pub is_span : Premise → Bool
is_span Span = true
is_span _ = false

-- Span is told of below the budget where it is listed, and else nowhere
abbrev pub bound_of : Option ℕ → ℕ → ℕ
bound_of None budget = 0
bound_of (Some k) budget = budget

-- the verdict where Span fails at a position, and else another one
abbrev pub or_late : Option ℕ → ℕ → Verdict → Verdict
or_late None which otherwise = otherwise
or_late (Some i) which otherwise = Broken i which

module _ (start : State) (image : Distilled) where
  -- the run has come to position p, where the state is s. The anchors below the bound that wait there are ws, and none was overdue
  pub record IsReached (bound p : ℕ) (s : State) (ws : List Waiting) : Type 0 where
    pub state : s ≡ state_at start p
    pub list : ws ≡ waiting start image bound p
    pub searched : IsSearched start image bound p

  -- no listed assumption but Span fails before position n
  abbrev pub IsClean : ℕ → Type 0
  IsClean n = (i : ℕ) → i < n → is_over (state_at start i) ≡ false → first_failing start image i ≡ None

  -- position i, below a bound, is the first at which Span fails
  pub record IsLate (bound i : ℕ) : Type 0 where
    pub within : i < bound
    pub going : is_over (state_at start i) ≡ false
    pub fails : span_fails start image i ≡ true
    pub first : (h : ℕ) → h < i → span_fails start image h ≡ false

  -- position j is the first at which a listed assumption but Span fails, and k is the number of the first one there
  pub record IsFailed (budget bound span p : ℕ) (s : State) (ws : List Waiting) (k : ℕ) : Type 0 where
    pub place : ℕ
    pub passed : p ≡ suc place
    pub below : place < budget
    pub going : is_over (state_at start place) ≡ false
    pub clean : IsClean place
    pub fails : first_failing start image place ≡ Some k
    pub reached : IsReached (min bound (asked_below k span place)) p s ws

  pub record IsThrough (budget bound p : ℕ) (s : State) (ws : List Waiting) : Type 0 where
    pub within : p ≤ budget
    pub clean : IsClean p
    pub stops : (p ≡ budget) ⊎ (is_over s ≡ true)
    pub reached : IsReached bound p s ws

  -- what a pass over the positions below a budget came to, at position p
  abbrev pub HasPassed : ℕ → ℕ → ℕ → ℕ → State → List Waiting → Passed → Type 0
  HasPassed budget bound span p s ws (Late i) = IsLate bound i × IsClean (suc i)
  HasPassed budget bound span p s ws (Failed k) = IsFailed budget bound span p s ws k
  HasPassed budget bound span p s ws Through = IsThrough budget bound p s ws

  -- at each of the positions from `from` to before `to` that are past the bound, an anchor waits
  abbrev pub IsAwake : ℕ → ℕ → ℕ → Type 0
  IsAwake bound from to = (k : ℕ) → from ≤ k → bound ≤ k → k < to → waiting start image bound k ≡ [] → ⊥

  -- whether Span fails at a position of the run below the bound, and then the first one
  abbrev pub IsAwaited : ℕ → Option ℕ → Type 0
  IsAwaited bound None = (i : ℕ) → i < bound → is_over (state_at start i) ≡ false → span_fails start image i ≡ false
  IsAwaited bound (Some i) = IsLate bound i

-- ---- the same of what the code has

-- the anchors that wait once the one joins that is at a position
abbrev pub with_here : ℕ → ℕ → Option ℕ → Waits → List Waiting
with_here bound position here w = joined bound position here (shown w)

-- whether one of them has waited for the whole limit
abbrev pub is_late : ℕ → ℕ → Option ℕ → Waits → Bool
is_late bound position here w = is_overdue w.limit position (with_here bound position here w)

-- a turn took the anchors that wait from the old ones to the new ones
abbrev pub IsTurned : Distilled → ℕ → Turn → Waits → Waits → Option ℕ → Type 0
IsTurned image bound t old new late =
    HasTurned image.limit bound t.position (count_of image t.pc) t.stops (is_anchor_pc image t.next) (shown old) (shown new) late

-- the run goes on before `last`, and is below the bound, or an anchor waits
abbrev pub is_awaited : {M : Type 0} {d : Ghosts M} → Machine M d → Waits → ℕ → ℕ → Bool
is_awaited m w bound last =
    not (is_end m.end) && (nat_lt m.position last && (nat_lt m.position bound || nat_lt 0 (length (shown w))))

-- a pass over the positions below a budget took one watch to another, and came to this
abbrev pub IsPassed : {M : Type 0} {d : Ghosts M} → (M → ℕ → ℕ) → Distilled → ℕ → Asked → Watch M d → Watch M d → Waits → Passed → Type 0
IsPassed at image budget asked old new w passed =
    HasPassed (state_of at old.machine) image budget asked.bound asked.span new.machine.position (state_of at new.machine) (shown w) passed

-- the run from a start has come to where a machine is
abbrev pub HasCome : {M : Type 0} {d : Ghosts M} → (M → ℕ → ℕ) → State → Distilled → ℕ → Machine M d → Waits → Type 0
HasCome at start image bound m w = IsReached start image bound m.position (state_of at m) (shown w)
