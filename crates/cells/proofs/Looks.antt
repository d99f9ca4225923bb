-- To read cells one by one is to read them all at once, and likewise to set them. A task's view follows its moves.
use Rattle.std.proofs.Common.{◌≡◌, ℕ, suc, Bool, true, false, ◌&&◌, ◌||◌, not, cond, List, [], ◌∷◌, Option, Some, None, is_some, unwrap_or, refl, sym, ap, ◌∙◌}
use Rattle.std.proofs.lemmas.Bool.{true≢false}
use mathlib.Core.Path.{fun_ext}
use Rattle.cells.specs.declared.Cell.{Cell}
use Rattle.cells.specs.declared.Cell.TheVariants.{Pc, Reg, Byte}
use Rattle.cells.specs.Cells.{Arch, value, is_pc, same_cell}
use Rattle.cells.specs.Machine.{Machine, IsLocal}
use Rattle.cells.specs.Task.{moves, recorded, recorded_values, written, IsQuiet}
use Rattle.cells.specs.Seen.{Seen, noted, looked_at, look, read_cells, among, given_values, marked, put_all, one, put_cell, put_cells, or_first, puts_of, task_seen, task_value}
use Rattle.cells.proofs.Law.{unwritten_stays}

noted_by : (rec a b nw : Bool) (o : Option ℕ) (v : ℕ)
    → cond (rec && (b && nw)) (Some (unwrap_or (cond (rec && (a && nw)) (Some (unwrap_or o v)) o) v)) (cond (rec && (a && nw)) (Some (unwrap_or o v)) o)
    ≡ cond (rec && ((a || b) && nw)) (Some (unwrap_or o v)) o
noted_by false a b nw o v = refl
noted_by true true true true o v = refl
noted_by true true true false o v = refl
noted_by true true false true o v = refl
noted_by true true false false o v = refl
noted_by true false b nw o v = refl

noted_twice : (f g : Cell → Bool) (s : Seen) (x : Cell) → noted g (looked_at f s) x ≡ noted (λ y. f y || g y) s x
unfolding noted
noted_twice f g s x = noted_by s.recording (f x) (g x) (not (s.wrote x)) (s.recorded x) (s.value x)

pub looked_twice : (f g : Cell → Bool) (s : Seen) → looked_at g (looked_at f s) ≡ looked_at (λ x. f x || g x) s
looked_twice f g s = ap (λ r. record s { recorded = r }) (fun_ext (noted_twice f g s))

none_noted : (rec nw : Bool) (o : Option ℕ) (v : ℕ) → o ≡ cond (rec && (false && nw)) (Some (unwrap_or o v)) o
none_noted true nw o v = refl
none_noted false nw o v = refl

noted_none : (s : Seen) (x : Cell) → s.recorded x ≡ noted (λ y. false) s x
unfolding noted
noted_none s x = none_noted s.recording (not (s.wrote x)) (s.recorded x) (s.value x)

pub read_cells-at_once : (cs : List Cell) (s : Seen) → read_cells cs s ≡ looked_at (among cs) s
read_cells-at_once [] s = ap (λ r. record s { recorded = r }) (fun_ext (noted_none s))
read_cells-at_once (c ∷ cs) s = read_cells-at_once cs (look c s) ∙ looked_twice (same_cell c) (among cs) s

value_by : (p q : Option ℕ) (v : ℕ) → unwrap_or q (unwrap_or p v) ≡ unwrap_or (or_first q p) v
value_by p (Some w) v = refl
value_by p None v = refl

mark_by : (rec : Bool) (p q : Option ℕ) (w : Bool) → ((rec && is_some q) || ((rec && is_some p) || w)) ≡ ((rec && is_some (or_first q p)) || w)
mark_by false p q w = refl
mark_by true p (Some v) w = refl
mark_by true p None w = refl

values_twice : (p q : Cell → Option ℕ) (f : Cell → ℕ) (x : Cell) → given_values q (given_values p f) x ≡ given_values (λ y. or_first (q y) (p y)) f x
unfolding given_values
values_twice p q f x = value_by (p x) (q x) (f x)

marks_twice : (p q : Cell → Option ℕ) (s : Seen) (x : Cell) → marked q (put_all p s) x ≡ marked (λ y. or_first (q y) (p y)) s x
unfolding marked
marks_twice p q s x = mark_by s.recording (p x) (q x) (s.wrote x)

pub put_twice : (p q : Cell → Option ℕ) (s : Seen) → put_all q (put_all p s) ≡ put_all (λ x. or_first (q x) (p x)) s
put_twice p q s = λ i. record s { value = fun_ext (values_twice p q s.value) i; wrote = fun_ext (marks_twice p q s) i }

none_marked : (rec w : Bool) → w ≡ ((rec && false) || w)
none_marked true w = refl
none_marked false w = refl

pub put_none : (s : Seen) → s ≡ put_all (λ x. None) s
unfolding given_values marked
put_none s = λ i. record s { value = s.value; wrote = fun_ext (λ x. none_marked s.recording (s.wrote x)) i }

pub put_cells-at_once : (ps : List (Cell × ℕ)) (s : Seen) → put_cells ps s ≡ put_all (puts_of ps) s
put_cells-at_once [] s = put_none s
put_cells-at_once (p ∷ ps) s = put_cells-at_once ps (put_cell p.0 p.1 s) ∙ put_twice (one p.0 p.1) (puts_of ps) s

-- A task's view after one more look, and after one more move.
module _ (m : Machine) (c : Arch) (t : ℕ) where
  recorded_by : (rec reads wrote : Bool) (v w : ℕ) → (rec ≡ false → reads ≡ true → wrote ≡ false → w ≡ v)
      → cond (reads && not wrote) (Some (unwrap_or (cond rec (Some v) None) w)) (cond rec (Some v) None) ≡ cond (rec || (reads && not wrote)) (Some v) None
  recorded_by true true true v w h = refl
  recorded_by true true false v w h = refl
  recorded_by true false wrote v w h = refl
  recorded_by false true true v w h = refl
  recorded_by false true false v w h = ap Some (h refl refl refl)
  recorded_by false false wrote v w h = refl

  still_base : IsLocal m → IsQuiet m c t → (x : Cell) → m.reads (moves m c t) x ≡ true → written m c t x ≡ false → task_value m c t x ≡ value c x
  unfolding task_value
  still_base local quiet Pc r nw = absurd (true≢false (sym r ∙ local.no_pc (moves m c t)))
  still_base local quiet (Reg n) r nw = unwritten_stays m local c t quiet (Reg n) refl nw
  still_base local quiet (Byte a) r nw = unwritten_stays m local c t quiet (Byte a) refl nw

  noted_next : IsLocal m → IsQuiet m c t → (x : Cell) → noted (m.reads (moves m c t)) (task_seen m c t t) x ≡ recorded_values m c (suc t) x
  unfolding noted
  noted_next local quiet x =
      recorded_by (recorded m c t x) (m.reads (moves m c t) x) (written m c t x) (value c x) (task_value m c t x) (λ e r nw. still_base local quiet x r nw)

  pub task_looked : IsLocal m → IsQuiet m c t → looked_at (m.reads (moves m c t)) (task_seen m c t t) ≡ task_seen m c t (suc t)
  task_looked local quiet = λ i. record (task_seen m c t t) { recorded = fun_ext (noted_next local quiet) i }

  module _ (r : ℕ) (puts : Cell → Option ℕ) (no : puts Pc ≡ None) (writes : (x : Cell) → is_some (puts x) ≡ m.writes (moves m c t) x)
      (gives : (x : Cell) → is_pc x ≡ false → value (m.move (moves m c t)) x ≡ unwrap_or (puts x) (value (moves m c t) x)) where
    value_next : (x : Cell) → given_values puts (task_value m c t) x ≡ task_value m c (suc t) x
    unfolding given_values task_value
    value_next Pc = ap (λ o. unwrap_or o c.pc) no
    value_next (Reg n) = sym (gives (Reg n) refl)
    value_next (Byte a) = sym (gives (Byte a) refl)

    flip : (a b : Bool) → (a || b) ≡ (b || a)
    flip true true = refl
    flip true false = refl
    flip false true = refl
    flip false false = refl

    mark_next : (x : Cell) → marked puts (task_seen m c t r) x ≡ written m c (suc t) x
    unfolding marked
    mark_next x = ap (λ b. b || written m c t x) (writes x) ∙ flip (m.writes (moves m c t) x) (written m c t x)

    pub task_put : put_all puts (task_seen m c t r) ≡ task_seen m c (suc t) r
    task_put = λ i. record (task_seen m c t r) { value = fun_ext value_next i; wrote = fun_ext mark_next i }
