-- What is removed may be passed over.
use Rattle.std.proofs.Common.{◌≡◌, ℕ, ◌%◌, Bool, true, false, not, cond, [], ◌∷◌, refl, sym, ap, ◌∙◌, eqb, Option, Some, None, is_some, IsSome, ◌||◌}
use Rattle.std.specs.Prelude.{bit_and}
use Rattle.std.proofs.lemmas.Bool.{eqb-true, eqb-false, eq-eqb, not-false, not-true, and_parts}
use Rattle.rv_word.specs.Masks.{writes}
use Rattle.rv_word.specs.declared.inst.Inst.{Inst}
use Rattle.rv_word.specs.declared.inst.Inst.TheVariants.{Lui, Auipc, Jal, Jalr, Branch, Load, Store, OpImm, Op, Fence, Ecall, Ebreak, Illegal}
use Rattle.rv_semantics.specs.Effect.{after, sum32}
use Rattle.fitting.specs.Claims.{Claims, among, leads, goes_on_at}
use Rattle.rv_semantics.specs.Prints.{is_call}
use Rattle.fitting.specs.Fits.{IsWithin, AreApart, MayPass}
use Rattle.distill_rules.specs.declared.Fate.TheVariants.{Stays, Goes}
use Rattle.distill_rules.specs.Cuts.{has_sides}
use Rattle.distill_rules.specs.Points.{fate_of}
use Rattle.distill_rules.specs.Rounds.{stays}
use Rattle.distill_fits.proofs.Within.{apart_within}

not_touched : (n : ℕ) → not (eqb n 0) ≡ false → n ≡ 0
not_touched n e = eqb-true n 0 (not-false (eqb n 0) e)

dead_from : (b : Bool) (w j : ℕ) → stays (cond b Goes Stays) w j ≡ false → b ≡ true
dead_from true w j e = refl
dead_from false w j e = cc

cut_from : (o : Option Bool) (P : Type 0) (w j : ℕ) → ((b : Bool) → o ≡ Some b → P) → stays (cond (is_some o) Goes Stays) w j ≡ false → IsSome o × P
cut_from None P w j h e = cc
cut_from (Some b) P w j h e = (refl, h b refl)

module _ (c : Claims) (after_need : ℕ) (need : ℕ → ℕ) (pc : ℕ) where
  -- what is needed where it leads is needed behind it
  abbrev pub HasNeed : Inst → Type 0
  HasNeed i = (q : ℕ) → among (leads c pc i) q ≡ true → IsWithin (need q) after_need

  next : (q : ℕ) → among (q ∷ []) q ≡ true
  next q = ap (λ b. b || false) (eq-eqb q q refl)

  untouched : (w m : ℕ) → w ≡ m → IsWithin (need (after pc)) after_need → not (eqb (bit_and w after_need) 0) ≡ false → AreApart m (need (after pc))
  untouched w m e has k = apart_within m after_need (need (after pc)) (ap (λ n. bit_and n after_need) (sym e) ∙ not_touched _ k) has

  -- `w` is what it writes, where it is no call
  pub may_pass : (w : ℕ) (i : Inst) → (is_call i ≡ false → w ≡ writes i) → HasNeed i → ((b : Bool) → c.cut pc ≡ Some b → has_sides pc i ≡ true)
      → stays (fate_of (c.cut pc) (c.dead pc) i) w after_need ≡ false → MayPass c pc (need (goes_on_at c pc i)) i
  may_pass w (Lui rd imm) own has cut k = untouched w (writes (Lui rd imm)) (own refl) (has (after pc) (next (after pc))) k
  may_pass w (Auipc rd imm) own has cut k = untouched w (writes (Auipc rd imm)) (own refl) (has (after pc) (next (after pc))) k
  may_pass w (Load kind rd rs1 off) own has cut k = untouched w (writes (Load kind rd rs1 off)) (own refl) (has (after pc) (next (after pc))) k
  may_pass w (OpImm op rd rs1 imm) own has cut k = untouched w (writes (OpImm op rd rs1 imm)) (own refl) (has (after pc) (next (after pc))) k
  may_pass w (Op op rd rs1 rs2) own has cut k = untouched w (writes (Op op rd rs1 rs2)) (own refl) (has (after pc) (next (after pc))) k
  may_pass w (Fence word) own has cut k = tt
  may_pass w (Store kind rs1 rs2 off) own has cut k = dead_from (c.dead pc) w after_need k
  may_pass w (Branch test rs1 rs2 off) own has cut k =
      let both = cut_from (c.cut pc) (has_sides pc (Branch test rs1 rs2 off) ≡ true) w after_need cut k in
      let x = and_parts (eqb (sum32 pc off % 4) 0) (not (eqb (sum32 pc off) (after pc))) both.1 in
      (both.0, eqb-true _ _ x.0, eqb-false _ _ (not-true _ x.1))
  may_pass w (Jal rd off) own has cut k = cc
  may_pass w (Jalr rd rs1 off) own has cut k = cc
  may_pass w Ecall own has cut k = cc
  may_pass w Ebreak own has cut k = cc
  may_pass w (Illegal word) own has cut k = cc
