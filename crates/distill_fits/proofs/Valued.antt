-- Which values are listed, and the words that set them.
use Rattle.std.proofs.Common.{◌≡◌, ℕ, ℤ, ◌<◌, ◌^◌, ◌%◌, Bool, true, false, cond, ◌&&◌, List, [], ◌∷◌, map, filter_map, refl, sym, ap, ◌∙◌, subst, Option, Some, None}
use Rattle.std.specs.Prelude.{nat_eq, pos, negsuc, int_le}
use Rattle.std.specs.List.{cons_option, AllByRecursion}
use Rattle.std.specs.Map.{lookup}
use Rattle.std.specs.Option.{option_map}
use Rattle.std.specs.Int.{w32, cast_signed}
use Rattle.std.proofs.lemmas.Bool.{eqb-true}
use lib.Dec.{eqb}
use Rattle.rv_word.specs.declared.inst.LoadKind.{LoadKind}
use Rattle.rv_word.specs.declared.inst.ImmOp.TheVariants.{Addi}
use Rattle.rv_word.specs.declared.inst.Inst.{Inst}
use Rattle.rv_word.specs.declared.inst.Inst.TheVariants.{Lui, Auipc, Jal, Jalr, Branch, Load, Store, OpImm, Op, Fence, Ecall, Ebreak, Illegal}
use Rattle.rv_word.specs.Meaning.{meaning}
use Rattle.rv_word.specs.Spelling.{IsWellFormed}
use Rattle.rv_word.specs.Constant.{constant_of, constant_word}
use Rattle.rv_word.proofs.ConstantWords.{words_mean}
use Rattle.rv_word.proofs.WellFormedMeaning.{well_formed-meaning}
use Rattle.dist_image.specs.Image.{Premise, Same}
use Rattle.profile_data.specs.Profile.{Tally}
use Rattle.fitting.specs.Claims.{as_same}
use Rattle.fitting.specs.Fits.{set_word}
use Rattle.distill_rules.specs.declared.Mask.{Mask}
use Rattle.distill_rules.specs.Cuts.{Cuts}
use Rattle.layout_rules.specs.declared.SlotPlan.{SlotPlan}
use Rattle.layout_rules.specs.Images.{value_at, values}
use Rattle.distill_fits.proofs.Looked.{pairs}
use Rattle.distill_fits.proofs.Sites.{plot_at}

-- ---- no other kind is among the values

pub none_of_values : {A : Type 0} (pick : Premise → Option A) → ((pc v : ℕ) → pick (Same pc v) ≡ None) → (c : Cuts) (ps : List SlotPlan) → filter_map pick (values c ps) ≡ []
none_of_values pick h c [] = refl
none_of_values pick h c (p ∷ ps) = still_none p.kept (value_at c p.pc) (none_of_values pick h c ps)
  where
    still_none : (b : Bool) (o : Option ℕ) → filter_map pick (values c ps) ≡ [] → filter_map pick (cons_option (cond b (option_map (λ v. Same p.pc v) o) None) (values c ps)) ≡ []
    still_none true None rest = rest
    still_none true (Some v) rest = ap (λ o. cons_option o (filter_map pick (values c ps))) (h p.pc v) ∙ rest
    still_none false o rest = rest

-- ---- the value of a kept instruction

module _ (word : ℕ → ℕ) (rows : List Tally) (c : Cuts) (begun : List ℕ) (t : List Mask) where
  abbrev pub value_of : ℕ → Option ℕ
  value_of pc = cond (plot_at word rows c begun t pc).kept (value_at c pc) None

  pub same_of_values : (pcs : List ℕ) → filter_map as_same (values c (map (plot_at word rows c begun t) pcs)) ≡ pairs value_of pcs
  same_of_values [] = refl
  same_of_values (pc ∷ pcs) = if_valued (plot_at word rows c begun t pc).kept (value_at c pc) (same_of_values pcs)
    where
      if_valued : (b : Bool) (o : Option ℕ) → filter_map as_same (values c (map (plot_at word rows c begun t) pcs)) ≡ pairs value_of pcs
          → filter_map as_same (cons_option (cond b (option_map (λ v. Same pc v) o) None) (values c (map (plot_at word rows c begun t) pcs)))
          ≡ cons_option (option_map {U = ℕ × ℕ} (λ v. (pc, v)) (cond b o None)) (pairs value_of pcs)
      if_valued true None rest = rest
      if_valued true (Some v) rest = ap (λ xs. (pc, v) ∷ xs) rest
      if_valued false o rest = rest

-- what holds of each pair holds of one that is found
pub value_has : (P : ℕ → ℕ → Type 0) (es : List (ℕ × ℕ)) → AllByRecursion (λ e. P e.0 e.1) es → (pc v : ℕ) → lookup (nat_eq pc) es ≡ Some v → P pc v
value_has P [] all pc v e = cc
value_has P (x ∷ xs) all pc v e = at_first (value_has P xs all.1 pc v) (nat_eq pc x.0) refl e
  where
    at_first : (lookup (nat_eq pc) xs ≡ Some v → P pc v) → (b : Bool) → nat_eq pc x.0 ≡ b → cond b (Some x.1) (lookup (nat_eq pc) xs) ≡ Some v → P pc v
    at_first more true h e =
        let there : x.1 ≡ v = cc in
        subst (λ n. P n v) (sym (eqb-true pc x.0 h)) (subst (P x.0) there all.0)
    at_first more false h e = more e

-- ---- a word that sets a load's register is not the load

pub record IsSetLoad (v : ℕ) (i : Inst) (w : ℕ) : Type 0 where
  pub kind : LoadKind
  pub rd : ℕ
  pub rs1 : ℕ
  pub off : ℤ
  pub load : i ≡ Load kind rd rs1 off
  pub word : constant_word rd v ≡ Some w

no_word : {P : Type 0} (w : ℕ) → ◌≡◌ {A = Option ℕ} None (Some w) → P
no_word w e = cc

pub set_load : (v : ℕ) (i : Inst) (w : ℕ) → set_word (Some v) i ≡ Some w → IsSetLoad v i w
set_load v (Lui rd imm) w e = no_word w e
set_load v (Auipc rd imm) w e = no_word w e
set_load v (Jal rd off) w e = no_word w e
set_load v (Jalr rd rs1 off) w e = no_word w e
set_load v (Branch test rs1 rs2 off) w e = no_word w e
set_load v (Load kind rd rs1 off) w e = if_zero (eqb rd 0) e
  where
    if_zero : (b : Bool) → cond b None (constant_word rd v) ≡ Some w → IsSetLoad v (Load kind rd rs1 off) w
    if_zero true e = no_word w e
    if_zero false e = record { kind = kind; rd = rd; rs1 = rs1; off = off; load = refl; word = e }
set_load v (Store kind rs1 rs2 off) w e = no_word w e
set_load v (OpImm op rd rs1 imm) w e = no_word w e
set_load v (Op op rd rs1 rs2) w e = no_word w e
set_load v (Fence z) w e = no_word w e
set_load v Ecall w e = no_word w e
set_load v Ebreak w e = no_word w e
set_load v (Illegal z) w e = no_word w e

no_load : (rd v : ℕ) (kind : LoadKind) (n m : ℕ) (off : ℤ) → constant_of rd v ≡ Some (Load kind n m off) → ⊥
no_load rd v kind n m off e = by_form (int_le (negsuc 2047) (cast_signed w32 v) && int_le (cast_signed w32 v) (pos 2047)) (eqb (v % 2 ^ 12) 0) e
  where
    by_form : (b d : Bool) → cond b (Some (OpImm Addi rd 0 (cast_signed w32 v))) (cond d (Some (Lui rd v)) None) ≡ Some (Load kind n m off) → ⊥
    by_form true d e = cc
    by_form false true e = cc
    by_form false false e = cc

pub load_register : (i : Inst) (kind : LoadKind) (rd rs1 : ℕ) (off : ℤ) → i ≡ Load kind rd rs1 off → IsWellFormed i → rd < 2 ^ 5
load_register i kind rd rs1 off e ok = (subst IsWellFormed e ok).0

pub not_itself : (v w : ℕ) → v < 2 ^ 32 → w < 2 ^ 32 → set_word (Some v) (meaning w) ≡ Some w → ⊥
not_itself v w small few e =
    let x = set_load v (meaning w) w e in
    let formed = well_formed-meaning w few in
    let register = load_register (meaning w) x.kind x.rd x.rs1 x.off x.load formed in
    no_load x.rd v x.kind x.rd x.rs1 x.off (sym (words_mean x.rd v register small) ∙ ap (option_map meaning) x.word ∙ ap (λ i. Some i) x.load)
