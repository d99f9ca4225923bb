-- The anchors that wait, by the entries that are kept of them.
use Rattle.std.specs.Prelude.{ℕ, ◌+◌, ◌-◌, ◌≤◌, cond, nat_lt, List, [], ◌∷◌}
use Rattle.assumption_laws.specs.declared.Waiting.{Waiting}
use Rattle.assume_list.specs.declared.waits.Wait.{Wait}
use Rattle.assume_list.specs.declared.waits.Waits.{Waits}

-- none of these has waited for the whole limit before a position `due`
abbrev pub IsEarly : ℕ → ℕ → List Waiting → Type 0
IsEarly due limit [] = Unit {0}
IsEarly due limit (w ∷ ws) = (due ≤ w.since + limit) × IsEarly due limit ws

-- after so many arrivals
abbrev pub shown_in : ℕ → List Wait → List Waiting
shown_in arrivals [] = []
shown_in arrivals (w ∷ ws) = cond (nat_lt arrivals w.last) (record { since = w.since; left = w.last - arrivals } ∷ shown_in arrivals ws) (shown_in arrivals ws)

-- the anchors that wait, as the definition lists them
abbrev pub shown : Waits → List Waiting
shown w = shown_in w.arrivals w.list.items
