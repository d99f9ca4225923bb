-- Each pc of a run is a multiple of 4 with 32 bits.
use Rattle.std.proofs.Common.{◌≡◌, ℕ, zero, suc, ◌*◌, ◌/◌, ◌%◌, ◌<◌, ◌^◌, ◌==◌, ◌||◌, Bool, true, false, cond, List, [], refl, arith}
use Rattle.std.proofs.lemmas.Bool.{eqb-true}
use Rattle.rv_word.specs.declared.inst.Inst.{Inst}
use Rattle.rv_word.specs.declared.inst.Inst.TheVariants.{Lui, Auipc, Jal, Jalr, Branch, Load, Store, OpImm, Op, Fence, Ecall, Ebreak, Illegal as IllegalWord}
use Rattle.cells.specs.declared.Cell.{Cell}
use Rattle.cells.specs.Cells.{IsPc}
use Rattle.cells.specs.Run.{State, is_over}
use Rattle.rv_word.specs.Meaning.{meaning}
use Rattle.rv_semantics.specs.declared.Flow.{Flow}
use Rattle.rv_semantics.specs.declared.Flow.TheVariants.{Next, Call, Break, Illegal, Misfetch}
use Rattle.rv_semantics.specs.Effect.{effect, jumped, branched, holds, sum32, after, is_output}
use Rattle.rv_semantics.specs.Machine.{machine, moved, word_at, pc_after}
use Rattle.rv_semantics.specs.Calls.{step, call, stopped, called, read, write, brk, flow_at}
use Rattle.fitting.specs.Fails.{state_at, pc_at}

-- where the run goes on, if it does
abbrev IsNextPc : Flow → Type 0
IsNextPc (Next t) = IsPc t
IsNextPc _ = Unit {0}

after_pc : (pc : ℕ) → IsPc pc → IsPc (after pc)
after_pc pc h = (omega (arith, h.0), omega arith)

jumped_pc : (b : Bool) (to : ℕ) (ps : List (Cell × ℕ)) → (b ≡ true → IsPc to) → IsNextPc (jumped b to ps).flow
jumped_pc true to ps h = h refl
jumped_pc false to ps h = tt

jump_pc : (to : ℕ) (ps : List (Cell × ℕ)) → to < 2 ^ 32 → IsNextPc (jumped (to % 4 == 0) to ps).flow
jump_pc to ps small = jumped_pc (to % 4 == 0) to ps (λ e. (eqb-true (to % 4) 0 e, small))

branched_pc : (b : Bool) (pc to : ℕ) → IsPc pc → to < 2 ^ 32 → IsNextPc (branched b pc to).flow
branched_pc true pc to h small = jump_pc to [] small
branched_pc false pc to h small = after_pc pc h

effect_pc : (i : Inst) (pc a b n : ℕ) → IsPc pc → IsNextPc (effect i pc a b n).flow
effect_pc (Lui rd imm) pc a b n h = after_pc pc h
effect_pc (Auipc rd imm) pc a b n h = after_pc pc h
effect_pc (Jal rd off) pc a b n h = jump_pc (sum32 pc off) _ (omega arith)
effect_pc (Jalr rd rs1 off) pc a b n h = jump_pc (sum32 a off / 2 * 2) _ (omega arith)
effect_pc (Branch test rs1 rs2 off) pc a b n h = branched_pc (holds test a b) pc (sum32 pc off) h (omega arith)
effect_pc (Load kind rd rs1 off) pc a b n h = after_pc pc h
effect_pc (Store kind rs1 rs2 off) pc a b n h = after_pc pc h
effect_pc (OpImm op rd rs1 imm) pc a b n h = after_pc pc h
effect_pc (Op op rd rs1 rs2) pc a b n h = after_pc pc h
effect_pc (Fence w) pc a b n h = after_pc pc h
effect_pc Ecall pc a b n h = tt
effect_pc Ebreak pc a b n h = tt
effect_pc (IllegalWord w) pc a b n h = tt

either : (b : Bool) (s t : State) → IsPc s.arch.pc → IsPc t.arch.pc → IsPc (cond b s t).arch.pc
either true s t h k = h
either false s t h k = k

module _ (s : State) (h : IsPc s.arch.pc) where
  on : IsPc (after s.arch.pc)
  on = after_pc s.arch.pc h

  read_pc : IsPc (read s).arch.pc
  unfolding read
  read_pc = either (s.arch.regs 10 == 0) _ _ on on

  write_pc : IsPc (write s).arch.pc
  unfolding write
  write_pc = either (is_output (s.arch.regs 10)) _ _ on on

  brk_pc : IsPc (brk s).arch.pc
  unfolding brk
  brk_pc = on

  called_pc : (n : ℕ) → IsPc (called n s).arch.pc
  called_pc n = either (n == 63) _ _ read_pc (either (n == 64) _ _ write_pc (either ((n == 93) || (n == 94)) _ _ h (either (n == 214) _ _ brk_pc on)))

  stopped_pc : (f : Flow) → IsPc (stopped f s).arch.pc
  stopped_pc (Next to) = h
  stopped_pc Call = called_pc (s.arch.regs 17)
  stopped_pc Break = h
  stopped_pc (Illegal w) = h
  stopped_pc (Misfetch to) = h

  call_pc : IsPc (call s).arch.pc
  unfolding call
  call_pc = stopped_pc (flow_at s)

  moved_pc : (f : Flow) → IsNextPc f → IsPc (pc_after s.arch.pc f)
  moved_pc (Next to) k = k
  moved_pc Call k = h
  moved_pc Break k = h
  moved_pc (Illegal w) k = h
  moved_pc (Misfetch to) k = h

  move_pc : IsPc (machine.move s.arch).pc
  unfolding moved
  move_pc = moved_pc (flow_at s) (effect_pc (meaning (word_at s.arch)) s.arch.pc _ _ _ h)

  step_pc : IsPc (step s).arch.pc
  step_pc = either (is_over s) _ _ h (either (machine.stops s.arch) _ _ call_pc move_pc)

pub run_pc : (start : State) → IsPc start.arch.pc → (i : ℕ) → IsPc (pc_at start i)
run_pc start h zero = h
run_pc start h (suc i) = step_pc (state_at start i) (run_pc start h i)
