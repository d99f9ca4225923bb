-- What a view of registers and memory shows: the values of its cells, and which cells were recorded and written.
use Rattle.std.specs.Prelude.{ℕ, Bool, true, false, ◌&&◌, ◌||◌, not, cond, List, [], ◌∷◌, Option, Some, None, is_some, unwrap_or}
use Rattle.cells.specs.declared.Cell.{Cell}
use Rattle.cells.specs.Cells.{Arch, value, is_pc, same_cell}
use Rattle.cells.specs.Machine.{Machine}
use Rattle.cells.specs.Task.{moves, recorded_values, written}

-- `base` has the values where a recording view began; a plain view has 0 there, and records and marks nothing. The value
-- at Pc is no register and no byte: reads and writes leave it
pub record Seen : Type 0 where
  pub recording : Bool
  pub base : Cell → ℕ
  pub value : Cell → ℕ
  pub recorded : Cell → Option ℕ
  pub wrote : Cell → Bool

-- what is seen of a state that is run on itself, with nothing recorded
abbrev pub plain_seen : (Cell → ℕ) → Seen
plain_seen v = record { recording = false; base = λ _. 0; value = v; recorded = λ _. None; wrote = λ _. false }

-- what is recorded once these cells were read: a recording view records those that were neither recorded nor written
unfoldable pub noted : (Cell → Bool) → Seen → Cell → Option ℕ
noted these s x = cond (s.recording && (these x && not (s.wrote x))) (Some (unwrap_or (s.recorded x) (s.value x))) (s.recorded x)

-- the same, with these cells recorded
abbrev pub looked_at : (Cell → Bool) → Seen → Seen
looked_at these s = record s { recorded = noted these s }

-- one cell read
abbrev pub look : Cell → Seen → Seen
look c s = looked_at (same_cell c) s

-- cells read one after another
abbrev pub read_cells : List Cell → Seen → Seen
read_cells [] s = s
read_cells (c ∷ cs) s = read_cells cs (look c s)

-- whether a cell is in a list
abbrev pub among : List Cell → Cell → Bool
among [] x = false
among (c ∷ cs) x = same_cell c x || among cs x

-- the values and the written cells once these cells were given values
unfoldable pub given_values : (Cell → Option ℕ) → (Cell → ℕ) → Cell → ℕ
given_values puts f x = unwrap_or (puts x) (f x)

-- which cells count as written once these are put
unfoldable pub marked : (Cell → Option ℕ) → Seen → Cell → Bool
marked puts s x = (s.recording && is_some (puts x)) || s.wrote x

-- what is seen once these cells are put
abbrev pub put_all : (Cell → Option ℕ) → Seen → Seen
put_all puts s = record s { value = given_values puts s.value; wrote = marked puts s }

-- one cell set
abbrev pub one : Cell → ℕ → Cell → Option ℕ
one c v x = cond (same_cell c x) (Some v) None

-- what is seen once one cell is put
abbrev pub put_cell : Cell → ℕ → Seen → Seen
put_cell c v s = put_all (one c v) s

-- cells set one after another
abbrev pub put_cells : List (Cell × ℕ) → Seen → Seen
put_cells [] s = s
put_cells (p ∷ ps) s = put_cells ps (put_cell p.0 p.1 s)

-- what they are given: the last put to a cell counts
abbrev pub or_first : Option ℕ → Option ℕ → Option ℕ
or_first (Some v) o = Some v
or_first None o = o

-- what a list puts into a cell: the last entry for it counts
abbrev pub puts_of : List (Cell × ℕ) → Cell → Option ℕ
puts_of [] x = None
puts_of (p ∷ ps) x = or_first (puts_of ps x) (one p.0 p.1 x)

-- what a recording view shows after t steps from c, when r steps have read their cells. Its value at Pc stays c's
unfoldable pub task_value : Machine → Arch → ℕ → Cell → ℕ
task_value m c t x = cond (is_pc x) c.pc (value (moves m c t) x)

-- what is seen of a task that began in state c and has done t steps, r of them looked at
abbrev pub task_seen : Machine → Arch → ℕ → ℕ → Seen
task_seen m c t r = record { recording = true; base = value c; value = task_value m c t; recorded = recorded_values m c r; wrote = written m c t }
