-- Where the master goes on that passes an instruction over is a pc.
use Rattle.std.proofs.Common.{◌≡◌, ℕ, ℤ, ◌<◌, ◌%◌, ◌^◌, Bool, true, false, not, refl, arith, Option, Some, None, eqb}
use Rattle.cells.specs.Cells.{IsPc}
use Rattle.std.proofs.lemmas.Bool.{eqb-true, and_parts}
use Rattle.rv_word.specs.declared.inst.Inst.{Inst}
use Rattle.rv_word.specs.declared.inst.Inst.TheVariants.{Lui, Auipc, Jal, Jalr, Branch, Load, Store, OpImm, Op, Fence, Ecall, Ebreak, Illegal}
use Rattle.rv_semantics.specs.Effect.{after, sum32}
use Rattle.fitting.specs.Claims.{Claims, goes_on_at}
use Rattle.distill_rules.specs.Cuts.{has_sides}

after_pc : (pc : ℕ) → IsPc pc → IsPc (after pc)
after_pc pc ok = (omega (arith, ok.0), omega arith)

sum_small : (pc : ℕ) (z : ℤ) → sum32 pc z < 2 ^ 32
sum_small pc z = omega arith

pub on_pc : (c : Claims) (pc : ℕ) (i : Inst) → IsPc pc → ((b : Bool) → c.cut pc ≡ Some b → has_sides pc i ≡ true) → IsPc (goes_on_at c pc i)
on_pc c pc (Branch test rs1 rs2 off) ok cut = if_cut (c.cut pc) refl
  where
    if_cut : (o : Option Bool) → c.cut pc ≡ o → IsPc (goes_on_at (record { cut = λ q. o; targets = λ q. None; dead = λ q. false; prints = λ q. false }) pc (Branch test rs1 rs2 off))
    if_cut None e = after_pc pc ok
    if_cut (Some true) e = after_pc pc ok
    if_cut (Some false) e =
        (eqb-true _ _ (and_parts (eqb (sum32 pc off % 4) 0) (not (eqb (sum32 pc off) (after pc))) (cut false e)).0, sum_small pc off)
on_pc c pc (Lui rd imm) ok cut = after_pc pc ok
on_pc c pc (Auipc rd imm) ok cut = after_pc pc ok
on_pc c pc (Jal rd off) ok cut = after_pc pc ok
on_pc c pc (Jalr rd rs1 off) ok cut = after_pc pc ok
on_pc c pc (Load kind rd rs1 off) ok cut = after_pc pc ok
on_pc c pc (Store kind rs1 rs2 off) ok cut = after_pc pc ok
on_pc c pc (OpImm op rd rs1 imm) ok cut = after_pc pc ok
on_pc c pc (Op op rd rs1 rs2) ok cut = after_pc pc ok
on_pc c pc (Fence word) ok cut = after_pc pc ok
on_pc c pc Ecall ok cut = after_pc pc ok
on_pc c pc Ebreak ok cut = after_pc pc ok
on_pc c pc (Illegal word) ok cut = after_pc pc ok
