-- A run step by step: outputs only grow, and what has ended stays.
use Rattle.std.proofs.Common.{◌≡◌, ℕ, ◌+◌, ◌-◌, ◌≤◌, zero, suc, Bool, true, false, ◌||◌, cond, List, [], ◌++◌, refl, sym, ap, subst, ◌∙◌, append_assoc, arith, ⊎_elim, ◌⊎◌, Option, Some, None}
use Rattle.std.specs.Prelude.{is_some}
use lib.Dec.{eqb}
use Rattle.std.proofs.lemmas.List.{append-nil}
use Rattle.cells.specs.declared.End.{End}
use Rattle.cells.specs.declared.End.TheVariants.{Exit}
use Rattle.cells.specs.Bytes.{bytes_from}
use Rattle.cells.specs.Run.{State, is_over, is_end, iterate, printed}
use Rattle.rv_semantics.specs.declared.Flow.{Flow}
use Rattle.rv_semantics.specs.declared.Flow.TheVariants.{Next, Call, Break, Illegal, Misfetch}
use Rattle.rv_semantics.specs.Effect.{is_output}
use Rattle.rv_semantics.specs.Machine.{machine}
use Rattle.rv_semantics.specs.Calls.{step, call, called, stopped, flow_at, read, read_some, write, write_some, write_count, brk, answers, minus, ended}
use Rattle.speculative_runs.specs.Driven.{state_after}

-- t has the output of s, and maybe more behind it
abbrev pub Grows : State → State → Type 0
Grows s t = (more : List ℕ) × (t.env.output ≡ s.env.output ++ more)

same : (s t : State) → t.env.output ≡ s.env.output → Grows s t
same s t e = ([], e ∙ sym (append-nil s.env.output))

module _ (s : State) where
  read_grows : Grows s (read s)
  unfolding read
  read_grows = grows_if_read (eqb (s.arch.regs 10) 0)
    where
      grows_if_read : (b : Bool) → Grows s (cond b (read_some s) (answers (minus 9) s))
      grows_if_read true = same s (read_some s) refl
      grows_if_read false = same s (answers (minus 9) s) refl

  write_grows : Grows s (write s)
  unfolding write
  write_grows = grows_if_written (is_output (s.arch.regs 10))
    where
      grows_if_written : (b : Bool) → Grows s (cond b (write_some s) (answers (minus 9) s))
      grows_if_written true = (bytes_from (write_count s) (s.arch.regs 11) s.arch.mem, refl)
      grows_if_written false = same s (answers (minus 9) s) refl

  brk_grows : Grows s (brk s)
  unfolding brk
  brk_grows = same s (brk s) refl

  called_grows : Grows s (called (s.arch.regs 17) s)
  called_grows = by_63 (eqb (s.arch.regs 17) 63)
    where
      by_214 : (b : Bool) → Grows s (cond b (brk s) (answers (minus 38) s))
      by_214 true = brk_grows
      by_214 false = same s (answers (minus 38) s) refl

      by_93 : (b : Bool) → Grows s (cond b (ended (Exit (s.arch.regs 10)) s) (cond (eqb (s.arch.regs 17) 214) (brk s) (answers (minus 38) s)))
      by_93 true = same s (ended (Exit (s.arch.regs 10)) s) refl
      by_93 false = by_214 (eqb (s.arch.regs 17) 214)

      by_64 : (b : Bool) → Grows s (cond b (write s) (cond (eqb (s.arch.regs 17) 93 || eqb (s.arch.regs 17) 94) (ended (Exit (s.arch.regs 10)) s) (cond (eqb (s.arch.regs 17) 214) (brk s) (answers (minus 38) s))))
      by_64 true = write_grows
      by_64 false = by_93 (eqb (s.arch.regs 17) 93 || eqb (s.arch.regs 17) 94)

      by_63 : (b : Bool) → Grows s (cond b (read s) (cond (eqb (s.arch.regs 17) 64) (write s) (cond (eqb (s.arch.regs 17) 93 || eqb (s.arch.regs 17) 94) (ended (Exit (s.arch.regs 10)) s) (cond (eqb (s.arch.regs 17) 214) (brk s) (answers (minus 38) s)))))
      by_63 true = read_grows
      by_63 false = by_64 (eqb (s.arch.regs 17) 64)

  stopped_grows : (f : Flow) → Grows s (stopped f s)
  stopped_grows (Next pc) = same s s refl
  stopped_grows Call = called_grows
  stopped_grows Break = same s (stopped Break s) refl
  stopped_grows (Illegal w) = same s (stopped (Illegal w) s) refl
  stopped_grows (Misfetch t) = same s (stopped (Misfetch t) s) refl

  call_grows : Grows s (call s)
  unfolding call
  call_grows = stopped_grows (flow_at s)

  pub step_grows : Grows s (step s)
  step_grows = over (is_over s)
    where
      stops : (b : Bool) → Grows s (cond b (call s) (record { arch = machine.move s.arch; env = printed s.env (machine.says s.arch) }))
      stops true = call_grows
      stops false = (machine.says s.arch, refl)

      over : (b : Bool) → Grows s (cond b s (cond (machine.stops s.arch) (call s) (record { arch = machine.move s.arch; env = printed s.env (machine.says s.arch) })))
      over true = same s s refl
      over false = stops (machine.stops s.arch)

pub grows : (s : State) (k d : ℕ) → Grows (iterate step s k) (iterate step s (d + k))
grows s k zero = let e : k ≡ 0 + k = omega arith in subst (λ n. Grows (iterate step s k) (iterate step s n)) e (same (iterate step s k) (iterate step s k) refl)
grows s k (suc d) =
    let e : suc (d + k) ≡ suc d + k = omega arith in
    let before = grows s k d in
    let last = step_grows (iterate step s (d + k)) in
    subst (λ n. Grows (iterate step s k) (iterate step s n)) e
    (before.0 ++ last.0, last.1 ∙ ap (λ o. o ++ last.0) before.1 ∙ append_assoc (iterate step s k).env.output before.0 last.0)

-- up to the end of the run, or of its steps
pub grows_on : (s : State) (k budget : ℕ) → k ≤ budget → Grows (iterate step s k) (state_after budget s)
unfolding state_after
grows_on s k budget l = let e : (budget - k) + k ≡ budget = omega (arith, l) in subst (λ n. Grows (iterate step s k) (iterate step s n)) e (grows s k (budget - k))

over_stays : (t : State) → is_over t ≡ true → step t ≡ t
over_stays t h = ap (λ b. cond b t (cond (machine.stops t.arch) (call t) (record { arch = machine.move t.arch; env = printed t.env (machine.says t.arch) }))) h

stays : (s : State) (k d : ℕ) → is_over (iterate step s k) ≡ true → iterate step s (d + k) ≡ iterate step s k
stays s k zero h = let e : 0 + k ≡ k = omega arith in ap (iterate step s) e
stays s k (suc d) h =
    let e : suc d + k ≡ suc (d + k) = omega arith in
    let before = stays s k d h in
    ap (iterate step s) e ∙ ap step before ∙ over_stays (iterate step s k) h

-- where it has ended, or all steps were taken, it stands where it stands after all steps
pub after_all : (s t : State) (k budget : ℕ) → t ≡ iterate step s k → k ≤ budget → (is_over t ≡ true) ⊎ (budget ≤ k) → t ≡ state_after budget s
unfolding state_after
after_all s t k budget e l o =
    let far : (budget - k) + k ≡ budget = omega (arith, l) in
    ⊎_elim
    (λ (h : is_over t ≡ true). e ∙ sym (stays s k (budget - k) (ap is_over (sym e) ∙ h)) ∙ ap (iterate step s) far)
    (λ (h : budget ≤ k). let same_k : k ≡ budget = omega (arith, l, h) in e ∙ ap (iterate step s) same_k)
    o

-- the output of a step more
pub step_more : (t u : State) → u ≡ step t → (more : List ℕ) × (u.env.output ≡ t.env.output ++ more)
step_more t u e = let g = step_grows t in (g.0, ap (λ (x : State). x.env.output) e ∙ g.1)

-- and that of all steps
pub all_more : (s t : State) (k budget : ℕ) → t ≡ iterate step s k → k ≤ budget → (rest : List ℕ) × ((state_after budget s).env.output ≡ t.env.output ++ rest)
all_more s t k budget e l = let g = grows_on s k budget l in (g.0, g.1 ∙ ap (λ (x : State). x.env.output ++ g.0) (sym e))

-- one step more
pub one_more : (s t u : State) (k m : ℕ) → t ≡ iterate step s k → u ≡ step t → m ≡ k + 1 → u ≡ iterate step s m
one_more s t u k m e h n = let suc_is : suc k ≡ m = omega (arith, n) in h ∙ ap step e ∙ ap (iterate step s) suc_is

pub begun : (s : State) (k : ℕ) → k ≡ 0 → s ≡ iterate step s k
begun s k e = ap (iterate step s) (sym e)

pub has_ended : (end : Option End) → is_some end ≡ true → is_end end ≡ true
has_ended None h = absurd (cc)
has_ended (Some e) h = refl
