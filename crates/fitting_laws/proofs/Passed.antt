-- What is known of a word that the master may pass over.
use Rattle.std.proofs.Common.{◌≡◌, ℕ, ◌%◌, Bool, true, false, ◌&&◌, cond, [], ◌∷◌, Option, Some, None, is_some, refl, sym, ap, ◌∙◌, ⊎_elim, true≢false, eqb-true, eq-eqb}
use Rattle.std.specs.Prelude.{nat_eq, IsSome}
use Rattle.std.proofs.lemmas.Bool.{or_left, or_cases}
use Rattle.rv_word.specs.declared.inst.Inst.{Inst}
use Rattle.rv_word.specs.declared.inst.Inst.TheVariants.{Lui, Auipc, Jal, Jalr, Branch, Load, Store, OpImm, Op, Fence, Ecall, Ebreak, Illegal}
use Rattle.rv_word.specs.Masks.{writes, in_mask}
use Rattle.rv_word.proofs.Registers.{in_mask-none}
use Rattle.cells.specs.declared.Cell.TheVariants.{Reg, Byte}
use Rattle.cells.specs.Seen.{puts_of}
use Rattle.rv_semantics.specs.Values.{register_puts}
use Rattle.rv_semantics.specs.Effect.{effect, jumped, branched, sum32, holds, after, is_store}
use Rattle.rv_semantics.specs.Prints.{is_call}
use Rattle.rv_semantics.specs.Machine.{is_next}
use Rattle.fitting.specs.Claims.{Claims, among, sides, leads, side_left, goes_on_at}
use Rattle.fitting.specs.Fits.{MayPass, AreApart}

one_among : (x y : ℕ) → among (x ∷ []) y ≡ true → y ≡ x
one_among x y e = ⊎_elim (λ (h : nat_eq x y ≡ true). sym (eqb-true x y h)) (λ (h : false ≡ true). absurd (true≢false (sym h))) (or_cases (nat_eq x y) false e)

here : (x : ℕ) → among (x ∷ []) x ≡ true
here x = or_left (nat_eq x x) false (eq-eqb x x refl)

module _ (c : Claims) (pc need : ℕ) where
  -- it leads to one place, where the master goes on
  pub only : (i : Inst) → MayPass c pc need i → (to : ℕ) → among (leads c pc i) to ≡ true → to ≡ goes_on_at c pc i
  only (Lui rd imm) may to e = one_among (after pc) to e
  only (Auipc rd imm) may to e = one_among (after pc) to e
  only (Jal rd off) may to e = absurd may
  only (Jalr rd rs1 off) may to e = absurd may
  only (Branch test rs1 rs2 off) may to e = cut (c.cut pc) may.0 e
    where
      cut : (o : Option Bool) → IsSome o → among (sides o (after pc) (sum32 pc off)) to ≡ true → to ≡ side_left o (after pc) (sum32 pc off)
      cut None some e = absurd (true≢false (sym some))
      cut (Some true) some e = one_among (after pc) to e
      cut (Some false) some e = one_among (sum32 pc off) to e
  only (Load kind rd rs1 off) may to e = one_among (after pc) to e
  only (Store kind rs1 rs2 off) may to e = one_among (after pc) to e
  only (OpImm op rd rs1 imm) may to e = one_among (after pc) to e
  only (Op op rd rs1 rs2) may to e = one_among (after pc) to e
  only (Fence w) may to e = one_among (after pc) to e
  only Ecall may to e = absurd may
  only Ebreak may to e = absurd may
  only (Illegal w) may to e = absurd may

  pub leads_on : (i : Inst) → MayPass c pc need i → among (leads c pc i) (goes_on_at c pc i) ≡ true
  leads_on (Lui rd imm) may = here (after pc)
  leads_on (Auipc rd imm) may = here (after pc)
  leads_on (Jal rd off) may = absurd may
  leads_on (Jalr rd rs1 off) may = absurd may
  leads_on (Branch test rs1 rs2 off) may = cut (c.cut pc) may.0
    where
      cut : (o : Option Bool) → IsSome o → among (sides o (after pc) (sum32 pc off)) (side_left o (after pc) (sum32 pc off)) ≡ true
      cut None some = absurd (true≢false (sym some))
      cut (Some true) some = here (after pc)
      cut (Some false) some = here (sum32 pc off)
  leads_on (Load kind rd rs1 off) may = here (after pc)
  leads_on (Store kind rs1 rs2 off) may = here (after pc)
  leads_on (OpImm op rd rs1 imm) may = here (after pc)
  leads_on (Op op rd rs1 rs2) may = here (after pc)
  leads_on (Fence w) may = here (after pc)
  leads_on Ecall may = absurd may
  leads_on Ebreak may = absurd may
  leads_on (Illegal w) may = absurd may

  -- and writes no register that is needed there
  pub unwritten : (i : Inst) → MayPass c pc need i → (r : ℕ) → in_mask need r ≡ true → in_mask (writes i) r ≡ false
  unwritten i may r h = not_in_writes i may
    where
      by_apart : (i : Inst) → AreApart (writes i) need → in_mask (writes i) r ≡ false
      by_apart i away = test (in_mask (writes i) r) refl
        where
          test : (b : Bool) → in_mask (writes i) r ≡ b → b ≡ false
          test true e = absurd (true≢false (sym h ∙ away r e))
          test false e = refl

      not_in_writes : (i : Inst) → MayPass c pc need i → in_mask (writes i) r ≡ false
      not_in_writes (Lui rd imm) may = by_apart (Lui rd imm) may
      not_in_writes (Auipc rd imm) may = by_apart (Auipc rd imm) may
      not_in_writes (Jal rd off) may = absurd may
      not_in_writes (Jalr rd rs1 off) may = absurd may
      not_in_writes (Branch test rs1 rs2 off) may = in_mask-none r
      not_in_writes (Load kind rd rs1 off) may = by_apart (Load kind rd rs1 off) may
      not_in_writes (Store kind rs1 rs2 off) may = in_mask-none r
      not_in_writes (OpImm op rd rs1 imm) may = by_apart (OpImm op rd rs1 imm) may
      not_in_writes (Op op rd rs1 rs2) may = by_apart (Op op rd rs1 rs2) may
      not_in_writes (Fence w) may = in_mask-none r
      not_in_writes Ecall may = absurd may
      not_in_writes Ebreak may = absurd may
      not_in_writes (Illegal w) may = absurd may

  pub no_call : (i : Inst) → MayPass c pc need i → is_call i ≡ false
  no_call (Lui rd imm) may = refl
  no_call (Auipc rd imm) may = refl
  no_call (Jal rd off) may = absurd may
  no_call (Jalr rd rs1 off) may = absurd may
  no_call (Branch test rs1 rs2 off) may = refl
  no_call (Load kind rd rs1 off) may = refl
  no_call (Store kind rs1 rs2 off) may = refl
  no_call (OpImm op rd rs1 imm) may = refl
  no_call (Op op rd rs1 rs2) may = refl
  no_call (Fence w) may = refl
  no_call Ecall may = absurd may
  no_call Ebreak may = absurd may
  no_call (Illegal w) may = absurd may

  -- it is no call, and never ends a run
  pub goes : (i : Inst) (a b n : ℕ) → MayPass c pc need i → is_next (effect i pc a b n).flow ≡ true
  goes (Lui rd imm) a b n may = refl
  goes (Auipc rd imm) a b n may = refl
  goes (Jal rd off) a b n may = absurd may
  goes (Jalr rd rs1 off) a b n may = absurd may
  goes (Branch test rs1 rs2 off) a b n may = side (holds test a b) (eq-eqb (sum32 pc off % 4) 0 may.1)
    where
      jumps : (d : Bool) → d ≡ true → is_next (jumped d (sum32 pc off) []).flow ≡ true
      jumps true e = refl
      jumps false e = absurd (true≢false (sym e))

      side : (d : Bool) → nat_eq (sum32 pc off % 4) 0 ≡ true → is_next (branched d pc (sum32 pc off)).flow ≡ true
      side true e = jumps (nat_eq (sum32 pc off % 4) 0) e
      side false e = refl
  goes (Load kind rd rs1 off) a b n may = refl
  goes (Store kind rs1 rs2 off) a b n may = refl
  goes (OpImm op rd rs1 imm) a b n may = refl
  goes (Op op rd rs1 rs2) a b n may = refl
  goes (Fence w) a b n may = refl
  goes Ecall a b n may = absurd may
  goes Ebreak a b n may = absurd may
  goes (Illegal w) a b n may = absurd may

  -- and puts bytes only where it is a dead store
  pub dead_only : (i : Inst) (a b n x : ℕ) → MayPass c pc need i → is_some (puts_of (effect i pc a b n).puts (Byte x)) ≡ true → (c.dead pc && is_store i) ≡ true
  dead_only i a b n x may h = only_dead i may h
    where
      no_byte : (rd v : ℕ) → is_some (puts_of (register_puts rd v) (Byte x)) ≡ false
      no_byte rd v = none (nat_eq rd 0)
        where
          none : (z : Bool) → is_some (puts_of (cond z [] ((Reg rd, v) ∷ [])) (Byte x)) ≡ false
          none true = refl
          none false = refl

      no_branch : (d : Bool) (to : ℕ) → is_some (puts_of (branched d pc to).puts (Byte x)) ≡ false
      no_branch false to = refl
      no_branch true to = none (nat_eq (to % 4) 0)
        where
          none : (z : Bool) → is_some (puts_of (jumped z to []).puts (Byte x)) ≡ false
          none true = refl
          none false = refl

      neither : {A : Type 0} (z : Bool) → z ≡ true → z ≡ false → A
      neither z e f = absurd (true≢false (sym e ∙ f))

      only_dead : (i : Inst) → MayPass c pc need i → is_some (puts_of (effect i pc a b n).puts (Byte x)) ≡ true → (c.dead pc && is_store i) ≡ true
      only_dead (Lui rd imm) may h = neither _ h (no_byte rd _)
      only_dead (Auipc rd imm) may h = neither _ h (no_byte rd _)
      only_dead (Jal rd off) may h = absurd may
      only_dead (Jalr rd rs1 off) may h = absurd may
      only_dead (Branch test rs1 rs2 off) may h = neither _ h (no_branch (holds test a b) (sum32 pc off))
      only_dead (Load kind rd rs1 off) may h = neither _ h (no_byte rd _)
      only_dead (Store kind rs1 rs2 off) may h = ap (λ d. d && true) may
      only_dead (OpImm op rd rs1 imm) may h = neither _ h (no_byte rd _)
      only_dead (Op op rd rs1 rs2) may h = neither _ h (no_byte rd _)
      only_dead (Fence w) may h = absurd (true≢false (sym h))
      only_dead Ecall may h = absurd may
      only_dead Ebreak may h = absurd may
      only_dead (Illegal w) may h = absurd may
