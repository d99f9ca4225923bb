-- An event of a task by its parts: the instruction by itself, or a call that is looked at and done.
use Rattle.std.proofs.Common.{◌≡◌, ℕ, ◌%◌, Bool, Option, get_or, arith, true, false, ◌&&◌, ◌||◌, cond, List, [], ◌∷◌, ◌++◌, refl, sym, ap, ◌∙◌, subst}
use Rattle.std.specs.Prelude.{nat_eq, nat_le, IfSome}
use Rattle.std.proofs.lemmas.List.{append-nil}
use mathlib.Core.Path.{fun_ext}
use Rattle.cells.specs.declared.Cell.{Cell}
use Rattle.cells.specs.declared.Cell.TheVariants.{Pc, Reg, Byte}
use Rattle.cells.specs.Bytes.{byte_cells, number}
use Rattle.cells.specs.Seen.{Seen, looked_at, look, read_cells, among, put_cell}
use Rattle.cells.proofs.Looks.{read_cells-at_once, looked_twice}
use Rattle.rv_word.specs.declared.inst.Inst.{Inst}
use Rattle.rv_word.specs.declared.inst.Inst.TheVariants.{Ecall}
use Rattle.rv_word.specs.Meaning.{meaning}
use Rattle.rv_semantics.specs.declared.Flow.{Flow}
use Rattle.rv_semantics.specs.Values.{bytes_of}
use Rattle.rv_semantics.specs.Effect.{effect, effect_at, next, is_output}
use Rattle.rv_semantics.specs.Prints.{nowhere, is_short_write, is_call, is_task_call, asks, arguments, task_effect, task_output}
use Rattle.rv_semantics.proofs.Tasks.{is_call_is, asks_no_other}
use Rattle.rv_step.specs.Outcome.{Outcome, outcome, task_step, step_outcome, inst_at}
use Rattle.rv_step.proofs.TaskCalls.{by_itself, then_called, called as does}
use Rattle.layers.specs.Layered.{after_write, written_bytes}
use Rattle.slave.specs.Task.{Shown, next_of, performed, goes_to, called, goes_behind}

-- cells that were read are read again: nothing changes
again : (cs ds : List Cell) (s : Seen) → ((x : Cell) → (among cs x || among ds x) ≡ among cs x) → read_cells ds (read_cells cs s) ≡ read_cells cs s
again cs ds s within =
    read_cells-at_once ds (read_cells cs s)
    ∙ ap (looked_at (among ds)) (read_cells-at_once cs s)
    ∙ looked_twice (among cs) (among ds) s
    ∙ ap (λ test. looked_at test s) (fun_ext within)
    ∙ sym (read_cells-at_once cs s)

twice : (b : Bool) → (b || b) ≡ b
twice true = refl
twice false = refl

two_of_four : (a b c d : Bool) → ((a || (b || (c || (d || false)))) || (b || (c || false))) ≡ (a || (b || (c || (d || false))))
two_of_four true b c d = refl
two_of_four false true c d = refl
two_of_four false false true d = refl
two_of_four false false false true = refl
two_of_four false false false false = refl

fetched_again : (pc : ℕ) (s : Seen) → step_outcome pc (read_cells (byte_cells 4 pc) s) ≡ step_outcome pc s
fetched_again pc s = ap (outcome (inst_at pc s.value) pc) (again (byte_cells 4 pc) (byte_cells 4 pc) s (λ x. twice (among (byte_cells 4 pc) x)))

asked_again : (s : Seen) → look (Reg 12) (look (Reg 11) (read_cells arguments s)) ≡ read_cells arguments s
asked_again s = again arguments (Reg 11 ∷ Reg 12 ∷ []) s at
  where
    at : (x : Cell) → (among arguments x || among (Reg 11 ∷ Reg 12 ∷ []) x) ≡ among arguments x
    at Pc = refl
    at (Byte a) = refl
    at (Reg n) = two_of_four (nat_eq 10 n) (nat_eq 11 n) (nat_eq 12 n) (nat_eq 17 n)

-- the instruction of the word that was fetched from a view that shows the same
pub word_is : (pc word : ℕ) (s ready : Seen) (i : Inst) → i ≡ meaning word → word ≡ number 4 pc (bytes_of ready.value) → ready ≡ s → inst_at pc s.value ≡ i
word_is pc word s ready i is fetched same = sym (is ∙ ap meaning (fetched ∙ ap (λ (t : Seen). number 4 pc (bytes_of t.value)) same))

module _ (prints : ℕ → Bool) (k : Shown) where
  abbrev here : Inst
  here = inst_at k.pc k.seen.value

  -- k, with this shown and printed
  abbrev with_view : Seen → List ℕ → Shown
  with_view s output = record k { seen = s; output = output }

  -- the instruction by itself, where no call stands that may print
  pub by_step : asks prints here k.pc ≡ false → (f : Flow) (s : Seen) (output : List ℕ) → ◌≡◌ {A = Outcome} (record { flow = f; seen = s }) (step_outcome k.pc k.seen) → output ≡ k.output
      → (with_view s output ≡ performed prints k) × (next_of f ≡ goes_to prints k)
  by_step e f s output h o =
      let out : ◌≡◌ {A = Outcome} (record { flow = f; seen = s }) (task_step prints k.pc k.seen) = h ∙ sym (by_itself prints k.pc k.seen e) in
      let none : task_output prints here k.pc k.seen.value ≡ [] = ap (λ b. cond (b && is_short_write k.seen.value) (written_bytes k.seen) []) e in
      let same : output ≡ k.output ++ task_output prints here k.pc k.seen.value = o ∙ sym (ap (λ bytes. k.output ++ bytes) none ∙ append-nil k.output) in (
        λ i. with_view (out i).seen (same i),
        ap (λ (r : Outcome). next_of r.flow) out,
      )

  -- the same where the word was looked at before
  pub by_step_again : prints k.pc ≡ true → (i : Inst) → (i ≡ Ecall → ⊥) → here ≡ i → (f : Flow) (s fetched : Seen) (output : List ℕ) → fetched ≡ read_cells (byte_cells 4 k.pc) k.seen
      → ◌≡◌ {A = Outcome} (record { flow = f; seen = s }) (step_outcome k.pc fetched) → output ≡ k.output → (with_view s output ≡ performed prints k) × (next_of f ≡ goes_to prints k)
  by_step_again listed i other is f s fetched output e h o = by_step (asks_no_other prints here k.pc (ap is_call is ∙ no_call (is_call i) refl)) f s output (h ∙ ap (step_outcome k.pc) e ∙ fetched_again k.pc k.seen) o
    where
      no_call : (b : Bool) → is_call i ≡ b → is_call i ≡ false
      no_call true e = absurd (other (is_call_is i e))
      no_call false e = e

  -- a call, once its word was fetched
  pub by_call : prints k.pc ≡ true → here ≡ Ecall → (s : Seen) (output : List ℕ) → s ≡ read_cells (byte_cells 4 k.pc) k.seen → output ≡ k.output
      → (called (is_short_write s.value) (with_view s output) ≡ performed prints k) × (goes_behind (is_short_write s.value) k.pc ≡ goes_to prints k)
  by_call listed is s output e o =
      let call = at_call (is_short_write k.seen.value) refl in (
        (λ i. called (is_short_write (e i).value) (with_view (e i) (o i))) ∙ call.0,
        ap (λ (t : Seen). goes_behind (is_short_write t.value) k.pc) e ∙ call.1,
      )
    where
      done : (b : Bool) → is_short_write k.seen.value ≡ b → task_step prints k.pc k.seen ≡ does b k.pc (read_cells (byte_cells 4 k.pc) k.seen)
      done b short =
          then_called prints k.pc k.seen listed is
          ∙ ap (λ i. does (is_short_write k.seen.value) k.pc (outcome i k.pc (read_cells (byte_cells 4 k.pc) k.seen)).seen) is
          ∙ ap (λ c. does c k.pc (read_cells (byte_cells 4 k.pc) k.seen)) short

      prints_none : (asked : Bool) → cond (asked && false) (written_bytes k.seen) [] ≡ []
      prints_none true = refl
      prints_none false = refl

      at_call : (b : Bool) → is_short_write k.seen.value ≡ b
          → (called b (with_view (read_cells (byte_cells 4 k.pc) k.seen) k.output) ≡ performed prints k) × (goes_behind b k.pc ≡ goes_to prints k)
      at_call false short =
          let out = sym (done false short) in
          let none : task_output prints here k.pc k.seen.value ≡ [] = ap (λ b. cond (asks prints here k.pc && b) (written_bytes k.seen) []) short ∙ prints_none (asks prints here k.pc) in
          let same : k.output ≡ k.output ++ task_output prints here k.pc k.seen.value = sym (ap (λ bytes. k.output ++ bytes) none ∙ append-nil k.output) in
          (λ i. with_view (out i).seen (same i), ap (λ (r : Outcome). next_of r.flow) out)
      at_call true short =
          let s = read_cells (byte_cells 4 k.pc) k.seen in
          let out = sym (done true short) in
          let all : written_bytes k.seen ≡ task_output prints here k.pc k.seen.value = sym (λ i. cond ((listed i && is_call (is i)) && short i) (written_bytes k.seen) []) in
          let same : after_write (read_cells arguments s) ≡ (task_step prints k.pc k.seen).seen =
          ap (λ t. put_cell (Reg 10) (s.value (Reg 12)) (read_cells (byte_cells (s.value (Reg 12)) (s.value (Reg 11))) t)) (asked_again s) ∙ ap (λ (r : Outcome). r.seen) out in
          (λ i. with_view (same i) (k.output ++ all i), ap (λ (r : Outcome). next_of r.flow) out)

-- an instruction, or a short write, goes on at a multiple of 4

effect_four : (i : Inst) (pc a b n : ℕ) → pc % 4 ≡ 0 → IfSome (next_of (effect i pc a b n).flow) (λ to. to % 4 ≡ 0)
effect_four i pc a b n four = grind arith

pub step_four : (prints : ℕ → Bool) (i : Inst) (pc : ℕ) (v : Cell → ℕ) → pc % 4 ≡ 0 → IfSome (next_of (task_effect prints i pc v).flow) (λ to. to % 4 ≡ 0)
step_four prints i pc v four = four_if_call (is_task_call prints i pc v)
  where
    four_if_call : (b : Bool) → IfSome (next_of (cond b (next pc ((Reg 10, v (Reg 12)) ∷ [])) (effect_at i pc v)).flow) (λ to. to % 4 ≡ 0)
    four_if_call true = omega (arith, four)
    four_if_call false = effect_four i pc _ _ _ four

pub step_aligned : (pc : ℕ) (s t : Seen) (f : Flow) (r : Option ℕ) → pc % 4 ≡ 0 → ◌≡◌ {A = Outcome} (record { flow = f; seen = t }) (step_outcome pc s) → r ≡ next_of f → IfSome r (λ to. to % 4 ≡ 0)
step_aligned pc s t f r four e is =
    subst (λ (o : Option ℕ). IfSome o (λ to. to % 4 ≡ 0)) (sym (is ∙ ap (λ (o : Outcome). next_of o.flow) e)) (step_four nowhere (inst_at pc s.value) pc s.value four)

-- what the code asks of the registers that it was given
pub short_is : (args : List ℕ) (v : Cell → ℕ) → args ≡ v (Reg 10) ∷ v (Reg 11) ∷ v (Reg 12) ∷ v (Reg 17) ∷ []
    → ((nat_eq (get_or args 3 0) 64 && is_output (get_or args 0 0)) && nat_le (get_or args 2 0) 256) ≡ is_short_write v
short_is args v e = ap (λ xs. (nat_eq (get_or xs 3 0) 64 && is_output (get_or xs 0 0)) && nat_le (get_or xs 2 0) 256) e
