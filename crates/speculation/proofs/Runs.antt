-- Steps of the run where no call and no end stands, and what a commit gives.
use Rattle.std.proofs.Common.{◌≡◌, ℕ, ◌+◌, ◌<◌, zero, suc, Bool, true, false, cond, Option, Some, None, refl, sym, ap, ◌∙◌, subst, arith, ⊎_elim, ◌⊎◌, true≢false, add-zero, add-suc, append-nil, append_assoc}
use Rattle.std.specs.Prelude.{nat_eq, not, is_some}
use Rattle.std.proofs.lemmas.Bool.{and_parts, or_cases, eqb-true, eqb-false, not-false}
use Rattle.cells.specs.declared.Cell.{Cell}
use Rattle.cells.specs.declared.Cell.TheVariants.{Pc, Reg, Byte}
use Rattle.cells.specs.declared.Differ.{Differ}
use Rattle.cells.specs.Cells.{Arch, value, IsCell}
use Rattle.cells.specs.Machine.{Machine, IsLocal}
use Rattle.cells.specs.Run.{State, is_over, printed}
use Rattle.cells.specs.Task.{moves, said, recorded, recorded_values, IsQuiet, Matches, apply}
use Rattle.cells.specs.Differ.{differ, is_other, IsFirst, IsFirstDiffer}
use Rattle.cells.proofs.Law.{jump, same_said, quiet_too, Matches-less}
use Rattle.cells.proofs.Differs.{cell_is_place, differ_first}
use Rattle.speculation.specs.declared.Ending.{Ending}
use Rattle.speculation.specs.declared.Ending.TheVariants.{Reached, Met, Full}
use Rattle.speculation.specs.World.{World, IsWorld, seq, is_anchor, arrivals}
use Rattle.speculation.specs.Task.{Task, now, ended_by, advance, looked, differ_at, IsTask, EndFits}

-- recorded cells are cells
recorded_within : (m : Machine) → IsLocal m → (c : Arch) (t : ℕ) (x : Cell) → recorded m c t x ≡ true → IsCell x
recorded_within m local c zero Pc r = tt
recorded_within m local c zero (Reg n) r = absurd (true≢false (sym r))
recorded_within m local c zero (Byte a) r = absurd (true≢false (sym r))
recorded_within m local c (suc t) x r =
    ⊎_elim
    (λ h. recorded_within m local c t x h)
    (λ h. local.within (moves m c t) x (and_parts _ _ h).0)
    (or_cases (recorded m c t x) _ r)

not_other : (b : Bool) (p v : ℕ) → b ≡ true → is_other (cond b (Some p) None) v ≡ false → v ≡ p
not_other true p v e h = sym (eqb-true p v (not-false (nat_eq p v) h))
not_other false p v e h = absurd (true≢false (sym e))

-- where no recorded cell differs, the state has what was recorded
matches_none : (m : Machine) → IsLocal m → (c s : Arch) (t : ℕ) → differ (recorded_values m c t) (value s) ≡ None → Matches m c t s
matches_none m local c s t e x r =
    let none : IsFirstDiffer (recorded_values m c t) (value s) None = subst (IsFirstDiffer (recorded_values m c t) (value s)) e (differ_first (recorded_values m c t) (value s)) in
    not_other (recorded m c t x) (value c x) (value s x) r (none x (cell_is_place x (recorded_within m local c t x r)))

pub first_told : (recorded : Cell → Option ℕ) (found : Cell → ℕ) (d : Differ) → differ recorded found ≡ Some d → IsFirst recorded found d
first_told recorded found d e = subst (IsFirstDiffer recorded found) e (differ_first recorded found)

module _ (w : World) where
  pub steps : State → ℕ → State
  steps s zero = s
  steps s (suc k) = w.step (steps s k)

  pub seq-steps : (p k : ℕ) → seq w (p + k) ≡ steps (seq w p) k
  unfolding steps
  seq-steps p zero = ap (seq w) (add-zero p)
  seq-steps p (suc k) = ap (seq w) (add-suc p k) ∙ ap w.step (seq-steps p k)

  pub steps-moves : IsWorld w → (s : State) (k : ℕ) → is_over s ≡ false → IsQuiet w.machine s.arch k → steps s k ≡ record { arch = moves w.machine s.arch k; env = printed s.env (said w.machine s.arch k) }
  unfolding steps
  steps-moves known s zero over quiet = λ i. record { arch = s.arch; env = record s.env { output = sym (append-nil s.env.output) i } }
  steps-moves known s (suc k) over quiet =
      ap w.step (steps-moves known s k over (λ i l. quiet i (omega arith)))
      ∙ known.moves (record { arch = moves w.machine s.arch k; env = printed s.env (said w.machine s.arch k) }) over (quiet k (omega arith))
      ∙ (λ i. record { arch = moves w.machine s.arch (suc k); env = record s.env { output = append_assoc s.env.output (said w.machine s.arch k) (w.machine.says (moves w.machine s.arch k)) i } })

module _ (w : World) (known : IsWorld w) where
  matches_looked : (c s : Arch) (t : ℕ) (e : Option Ending) → Matches w.machine c (looked e t) s → Matches w.machine c t s
  matches_looked c s t None h = h
  matches_looked c s t (Some Reached) h = h
  matches_looked c s t (Some Met) h = Matches-less w.machine known.local c s t h
  matches_looked c s t (Some Full) h = h

  task_matches : (t : Task) (s : State) → differ_at w t s ≡ None → Matches w.machine t.base t.steps s.arch
  task_matches t s e =
      matches_looked t.base s.arch t.steps t.ending (matches_none w.machine known.local t.base s.arch (looked t.ending t.steps) e)

  -- what a commit gives is the run so many steps on
  pub committed_is : (t : Task) (s : State) (p : ℕ) → IsTask w t → is_over s ≡ false → s ≡ seq w p → differ_at w t s ≡ None
      → record { arch = apply w.machine t.base t.steps s.arch; env = printed s.env (said w.machine t.base t.steps) } ≡ seq w (p + t.steps)
  committed_is t s p is_task over is none =
      let h = task_matches t s none in
      ap (λ a. record { arch = a; env = printed s.env (said w.machine t.base t.steps) }) (jump w.machine known.local t.base s.arch t.steps is_task.quiet h)
      ∙ ap (λ bytes. record { arch = moves w.machine s.arch t.steps; env = printed s.env bytes }) (sym (same_said w.machine known.local t.base s.arch t.steps is_task.quiet h))
      ∙ sym (steps-moves w known s t.steps over (quiet_too w.machine known.local t.base s.arch t.steps is_task.quiet h))
      ∙ ap (λ z. steps w z t.steps) is
      ∙ sym (seq-steps w p t.steps)

  -- one event of a running task
  step_counts : (t : Task) → (arrivals w t.base (suc t.steps) ≡ t.count → ⊥) → arrivals w t.base t.steps < t.count → arrivals w t.base (suc t.steps) < t.count
  step_counts t ne l = below_if_anchor (is_anchor w (moves w.machine t.base (suc t.steps)).pc) ne
    where
      below_if_anchor : (b : Bool) → (cond b 1 0 + arrivals w t.base t.steps ≡ t.count → ⊥) → cond b 1 0 + arrivals w t.base t.steps < t.count
      below_if_anchor true ne = grind (arith, l, ne)
      below_if_anchor false ne = omega (arith, l)

  below_next : (P : ℕ → Type 0) (t : ℕ) → ((i : ℕ) → i < t → P i) → P t → (i : ℕ) → i < suc t → P i
  below_next P t below here i l = ⊎_elim (λ (e : i ≡ t). subst P (sym e) here) (λ (h : i < t). below i h) (which i t l)
    where
      which : (i t : ℕ) → i < suc t → (i ≡ t) ⊎ (i < t)
      which i t l = grind arith

  step_ends : (t : Task) (b d : Bool) → nat_eq (arrivals w t.base (suc t.steps)) t.count ≡ b → nat_eq (suc t.steps) w.limit ≡ d → EndFits w t None
      → EndFits w (record t { steps = suc t.steps; ending = cond b (Some Reached) (cond d (Some Full) None) }) (cond b (Some Reached) (cond d (Some Full) None))
  step_ends t true d p q ran = (eqb-true (arrivals w t.base (suc t.steps)) t.count p, omega arith)
  step_ends t false true p q ran = (eqb-true (suc t.steps) w.limit q, step_counts t (eqb-false (arrivals w t.base (suc t.steps)) t.count p) ran.1)
  step_ends t false false p q ran =
      let ne = eqb-false (suc t.steps) w.limit q in
      let l = ran.0 in
      (grind (arith, l, ne), step_counts t (eqb-false (arrivals w t.base (suc t.steps)) t.count p) ran.1)

  pub advance_keeps : (t : Task) → IsTask w t → t.ending ≡ None → IsTask w (advance w t)
  advance_keeps t is_task none = task_if_stops (w.machine.stops (now w t)) refl
    where
      ran : EndFits w t None
      ran = subst (EndFits w t) none is_task.ended

      task_if_stops : (b : Bool) → w.machine.stops (now w t) ≡ b → IsTask w (cond b (record t { ending = Some Met }) (record t { steps = suc t.steps; ending = ended_by w t }))
      task_if_stops true e = record { quiet = is_task.quiet; within = is_task.within; counted = is_task.counted; ended = (ran.0, ran.1, e) }
      task_if_stops false e =
          record {
            quiet = below_next (λ i. w.machine.stops (moves w.machine t.base i) ≡ false) t.steps is_task.quiet e;
            within = ran.0;
            counted = below_next (λ i. arrivals w t.base i < t.count) t.steps is_task.counted ran.1;
            ended = step_ends t (nat_eq (arrivals w t.base (suc t.steps)) t.count) (nat_eq (suc t.steps) w.limit) refl refl ran;
          }

pub running_none : (o : Option Ending) → not (is_some o) ≡ true → o ≡ None
running_none None e = refl
running_none (Some x) e = absurd (true≢false (sym e))
