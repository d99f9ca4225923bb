-- What stops a task is a call that none does, or ends the run.
use Rattle.std.proofs.Common.{◌≡◌, ℕ, ◌%◌, Bool, true, false, ◌||◌, ◌&&◌, not, cond, List, [], ◌∷◌, refl, sym, ap, ◌∙◌}
use lib.Dec.{eqb}
use Rattle.rv_word.specs.declared.inst.Inst.{Inst}
use Rattle.rv_word.specs.declared.inst.Inst.TheVariants.{Lui, Auipc, Jal, Jalr, Branch, Load, Store, OpImm, Op, Fence, Ecall, Ebreak, Illegal as IllegalWord}
use Rattle.rv_word.specs.Meaning.{meaning}
use Rattle.rv_word.specs.Masks.{sources}
use Rattle.cells.specs.declared.Cell.{Cell}
use Rattle.cells.specs.declared.Cell.TheVariants.{Reg}
use Rattle.cells.specs.Cells.{value}
use Rattle.cells.specs.Bytes.{number}
use Rattle.cells.specs.Run.{State, is_over, printed}
use Rattle.rv_semantics.specs.declared.Flow.{Flow}
use Rattle.rv_semantics.specs.declared.Flow.TheVariants.{Next, Call, Break, Illegal, Misfetch}
use Rattle.rv_semantics.specs.Values.{bytes_of}
use Rattle.rv_semantics.specs.Effect.{effect, effect_at, next, jumped, branched, holds, sum32, first, second, load_count, load_from}
use Rattle.rv_semantics.specs.Prints.{is_call, is_task_call}
use Rattle.rv_semantics.specs.Machine.{machine, machine_in, word_at, is_next}
use Rattle.rv_semantics.specs.Calls.{step, call, stopped, flow_at}
use Rattle.rv_semantics.proofs.Tasks.{moves}
use Rattle.assume_list.specs.Sights.{is_stopping_call}

abbrev is_calling : Flow → Bool
is_calling Call = true
is_calling _ = false

jumped_on : (b : Bool) (to : ℕ) (ps : List (Cell × ℕ)) → false ≡ is_calling (jumped b to ps).flow
jumped_on true to ps = refl
jumped_on false to ps = refl

branched_on : (b : Bool) (pc to : ℕ) → false ≡ is_calling (branched b pc to).flow
branched_on true pc to = jumped_on (eqb (to % 4) 0) to []
branched_on false pc to = refl

calls_by : (i : Inst) (pc a b n : ℕ) → is_call i ≡ is_calling (effect i pc a b n).flow
calls_by (Lui rd imm) pc a b n = refl
calls_by (Auipc rd imm) pc a b n = refl
calls_by (Jal rd off) pc a b n = jumped_on (eqb (sum32 pc off % 4) 0) (sum32 pc off) _
calls_by (Jalr rd rs1 off) pc a b n = jumped_on _ _ _
calls_by (Branch test rs1 rs2 off) pc a b n = branched_on (holds test a b) pc (sum32 pc off)
calls_by (Load kind rd rs1 off) pc a b n = refl
calls_by (Store kind rs1 rs2 off) pc a b n = refl
calls_by (OpImm op rd rs1 imm) pc a b n = refl
calls_by (Op op rd rs1 rs2) pc a b n = refl
calls_by (Fence w) pc a b n = refl
calls_by Ecall pc a b n = refl
calls_by Ebreak pc a b n = refl
calls_by (IllegalWord w) pc a b n = refl

-- the state after a step that doesn't stop
abbrev gone_on : State → State
gone_on s = record { arch = machine.move s.arch; env = printed s.env (machine.says s.arch) }

stopped_by : (f : Flow) (s : State) → is_over s ≡ false → not (is_next f) ≡ (is_calling f || is_over (cond (not (is_next f)) (stopped f s) (gone_on s)))
stopped_by (Next pc) s h = sym h
stopped_by Call s h = refl
stopped_by Break s h = refl
stopped_by (Illegal w) s h = refl
stopped_by (Misfetch t) s h = refl

plain_stops : (s : State) → is_over s ≡ false → machine.stops s.arch ≡ (is_call (meaning (word_at s.arch)) || is_over (step s))
unfolding call
plain_stops s h =
    let i = meaning (word_at s.arch) in
    let v = value s.arch in
    stopped_by (flow_at s) s h
    ∙ ap (λ b. b || is_over (cond (machine.stops s.arch) (stopped (flow_at s) s) (gone_on s)))
    (sym (calls_by i s.arch.pc (first (sources i) v) (second (sources i) v) (number (load_count i) (load_from i (first (sources i) v)) (bytes_of v))))
    ∙ ap (λ b. is_call i || is_over (cond b s (cond (machine.stops s.arch) (stopped (flow_at s) s) (gone_on s)))) (sym h)

-- a call that a task does goes on
pub stops_is : (prints : ℕ → Bool) (s : State) → is_over s ≡ false
    → (machine_in prints).stops s.arch ≡ (is_stopping_call prints (meaning (word_at s.arch)) s.arch || is_over (step s))
stops_is prints s h = if_task_call (is_task_call prints i s.arch.pc v) refl
  where
    i : Inst
    i = meaning (word_at s.arch)

    v : Cell → ℕ
    v = value s.arch

    stops_by : Bool → Bool
    stops_by b = not (is_next (cond b (next s.arch.pc ((Reg 10, v (Reg 12)) ∷ [])) (effect_at i s.arch.pc v)).flow)

    alone : (c : Bool) → c ≡ (c && true)
    alone true = refl
    alone false = refl

    none : (c : Bool) → false ≡ (c && false)
    none true = refl
    none false = refl

    if_task_call : (b : Bool) → is_task_call prints i s.arch.pc v ≡ b → stops_by b ≡ ((is_call i && not b) || is_over (step s))
    if_task_call false e = plain_stops s h ∙ ap (λ c. c || is_over (step s)) (alone (is_call i))
    if_task_call true e =
        let on : is_over (step s) ≡ false = ap is_over (moves prints s h (ap stops_by e)) ∙ h in
        sym on ∙ ap (λ c. c || is_over (step s)) (none (is_call i))
