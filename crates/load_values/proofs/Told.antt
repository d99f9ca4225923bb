-- What a position tells, against what it does.
use Rattle.std.proofs.Common.{◌≡◌, ℕ, Bool, true, false, not, ◌&&◌, cond, refl, sym, ap, ◌∙◌}
use Rattle.std.specs.Prelude.{nat_eq}
use Rattle.std.proofs.lemmas.Bool.{eqb-true, eq-eqb, and_parts}
use Rattle.rv_word.specs.declared.inst.Inst.{Inst}
use Rattle.rv_word.specs.declared.inst.Inst.TheVariants.{Lui, Auipc, Jal, Jalr, Branch, Load, Store, OpImm, Op, Fence, Ecall, Ebreak, Illegal}
use Rattle.rv_word.specs.Meaning.{meaning}
use Rattle.cells.specs.Cells.{Arch}
use Rattle.cells.specs.Run.{State}
use Rattle.rv_semantics.specs.Machine.{word_at}
use Rattle.fitting.specs.Fails.{loads_as, program, arch_at, pc_at, fetched_at}
use Rattle.load_values.specs.declared.sight.Sight.{Sight}
use Rattle.load_values.specs.declared.sight.Sight.TheVariants.{Value, Executed, Hidden, Nothing}
use Rattle.load_values.specs.Found.{is_load, sets_register, Gives}
use Rattle.load_values.specs.Sights.{value_of, sight_at, executes}

-- ---- instructions

sets_load : (i : Inst) → sets_register i ≡ true → is_load i ≡ true
sets_load (Load kind rd rs1 off) h = refl
sets_load (Lui rd imm) h = absurd cc
sets_load (Auipc rd imm) h = absurd cc
sets_load (Jal rd off) h = absurd cc
sets_load (Jalr rd rs1 off) h = absurd cc
sets_load (Branch test rs1 rs2 off) h = absurd cc
sets_load (Store kind rs1 rs2 off) h = absurd cc
sets_load (OpImm op rd rs1 imm) h = absurd cc
sets_load (Op op rd rs1 rs2) h = absurd cc
sets_load (Fence w) h = absurd cc
sets_load Ecall h = absurd cc
sets_load Ebreak h = absurd cc
sets_load (Illegal w) h = absurd cc

loads_value : (i : Inst) (s : Arch) (v : ℕ) → sets_register i ≡ true → loads_as v i s ≡ nat_eq (value_of i s) v
loads_value (Load kind rd rs1 off) s v h = refl
loads_value (Lui rd imm) s v h = absurd cc
loads_value (Auipc rd imm) s v h = absurd cc
loads_value (Jal rd off) s v h = absurd cc
loads_value (Jalr rd rs1 off) s v h = absurd cc
loads_value (Branch test rs1 rs2 off) s v h = absurd cc
loads_value (Store kind rs1 rs2 off) s v h = absurd cc
loads_value (OpImm op rd rs1 imm) s v h = absurd cc
loads_value (Op op rd rs1 rs2) s v h = absurd cc
loads_value (Fence w) s v h = absurd cc
loads_value Ecall s v h = absurd cc
loads_value Ebreak s v h = absurd cc
loads_value (Illegal w) s v h = absurd cc

-- ---- sights

pub same_value : (u v : ℕ) → Value u ≡ Value v → u ≡ v
same_value u v e = cc

is_value : (a b c : Bool) (w v : ℕ) → cond a (cond b (Value w) Executed) (cond c Hidden Nothing) ≡ Value v → (b ≡ true) × (w ≡ v)
is_value true true c w v e = (refl, same_value w v e)
is_value true false c w v e = absurd cc
is_value false b true w v e = absurd cc
is_value false b false w v e = absurd cc

is_nothing : (a b c : Bool) (w : ℕ) → cond a (cond b (Value w) Executed) (cond c Hidden Nothing) ≡ Nothing → (a ≡ false) × (c ≡ false)
is_nothing true true c w e = absurd cc
is_nothing true false c w e = absurd cc
is_nothing false b true w e = absurd cc
is_nothing false b false w e = (refl, refl)

executes_is : (a b c : Bool) (w : ℕ) → executes (cond a (cond b (Value w) Executed) (cond c Hidden Nothing)) ≡ a
executes_is true true c w = refl
executes_is true false c w = refl
executes_is false b true w = refl
executes_is false b false w = refl

module _ (start : State) (i : ℕ) where
  abbrev own : Bool
  own = nat_eq (word_at (arch_at start i)) (program start (pc_at start i))

  abbrev other : Bool
  other = not own && is_load (meaning (program start (pc_at start i)))

  -- it executes a load exactly where it tells of one
  pub executes_load : executes (sight_at start i) ≡ is_load (fetched_at start i)
  executes_load = executes_is (is_load (fetched_at start i)) (own && sets_register (fetched_at start i)) other (value_of (fetched_at start i) (arch_at start i))

  -- it gives a value exactly where it tells the value
  pub gives : (v : ℕ) → sight_at start i ≡ Value v → Gives start i v
  gives v e =
      let h = is_value (is_load (fetched_at start i)) (own && sets_register (fetched_at start i)) other (value_of (fetched_at start i) (arch_at start i)) v e in
      let parts = and_parts own (sets_register (fetched_at start i)) h.0 in
      record {
        own = eqb-true _ _ parts.0;
        sets = parts.1;
        value = loads_value (fetched_at start i) (arch_at start i) v parts.1 ∙ eq-eqb (value_of (fetched_at start i) (arch_at start i)) v h.1;
      }

  pub tells : (v : ℕ) → Gives start i v → sight_at start i ≡ Value v
  tells v g =
      let a : is_load (fetched_at start i) ≡ true = sets_load (fetched_at start i) g.sets in
      let b : (own && sets_register (fetched_at start i)) ≡ true = ap (λ (x : Bool). x && sets_register (fetched_at start i)) (eq-eqb (word_at (arch_at start i)) (program start (pc_at start i)) g.own) ∙ g.sets in
      let w : value_of (fetched_at start i) (arch_at start i) ≡ v = eqb-true (value_of (fetched_at start i) (arch_at start i)) v (sym (loads_value (fetched_at start i) (arch_at start i) v g.sets) ∙ g.value) in
      ap (λ (x : Bool). cond x (cond (own && sets_register (fetched_at start i)) (Value (value_of (fetched_at start i) (arch_at start i))) Executed) (cond other Hidden Nothing)) a
      ∙ ap (λ (x : Bool). cond x (Value (value_of (fetched_at start i) (arch_at start i))) Executed) b
      ∙ ap (λ (x : ℕ). Value x) w

  -- where it tells nothing, the program has no load
  pub no_load : sight_at start i ≡ Nothing → is_load (meaning (program start (pc_at start i))) ≡ false
  no_load e = if_own own refl
    where
      h : (is_load (fetched_at start i) ≡ false) × (other ≡ false)
      h = is_nothing (is_load (fetched_at start i)) (own && sets_register (fetched_at start i)) other (value_of (fetched_at start i) (arch_at start i)) e

      if_own : (b : Bool) → own ≡ b → is_load (meaning (program start (pc_at start i))) ≡ false
      if_own true o = ap (λ (w : ℕ). is_load (meaning w)) (sym (eqb-true (word_at (arch_at start i)) (program start (pc_at start i)) o)) ∙ h.0
      if_own false o = sym (ap (λ (x : Bool). not x && is_load (meaning (program start (pc_at start i)))) o) ∙ h.1

  -- where it gives a value, the program has one
  pub own_load : (v : ℕ) → Gives start i v → is_load (meaning (program start (pc_at start i))) ≡ true
  own_load v g = ap (λ (w : ℕ). is_load (meaning w)) (sym g.own) ∙ sets_load (fetched_at start i) g.sets

  pub one_value : (u v : ℕ) → Gives start i u → Gives start i v → u ≡ v
  one_value u v g h = same_value u v (sym (tells u g) ∙ tells v h)

  -- a value isn't given where none is told
  pub not_given : (v : ℕ) → (s : Sight) → sight_at start i ≡ s → (s ≡ Value v → ⊥) → Gives start i v → ⊥
  not_given v s e away g = away (sym e ∙ tells v g)
