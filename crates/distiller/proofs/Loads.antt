-- What is given of loads, and of those that count.
use Rattle.std.proofs.Common.{◌≡◌, ℕ, ◌^◌, ◌%◌, Bool, true, false, not, cond, ◌&&◌, List, [], ◌∷◌, map, filter, All, refl, sym, ap, subst, Some, None, IsSome}
use Rattle.std.specs.Prelude.{pos, negsuc, int_le}
use Rattle.std.specs.List.Sorted.{IsStrictlyIncreasing}
use Rattle.std.specs.Option.{option_map}
use Rattle.std.specs.Int.{w32, cast_signed}
use Rattle.std.proofs.lemmas.Bool.{and_parts}
use Rattle.std.proofs.lemmas.List.Elements.{All-nil, All-cons, All-head, All-tail}
use Rattle.std.proofs.lemmas.List.Kept.{IsStrictlyIncreasing-filter}
use lib.Dec.{eqb}
use Rattle.rv_word.specs.declared.inst.ImmOp.TheVariants.{Addi}
use Rattle.rv_word.specs.declared.inst.Inst.{Inst}
use Rattle.rv_word.specs.declared.inst.Inst.TheVariants.{Lui, Auipc, Jal, Jalr, Branch, Load, Store, OpImm, Op, Fence, Ecall, Ebreak, Illegal}
use Rattle.rv_word.specs.Meaning.{meaning}
use Rattle.rv_word.specs.Spelling.{spelling}
use Rattle.rv_word.specs.Constant.{constant_word}
use Rattle.profile_data.specs.Profile.{Tally}
use Rattle.fitting.specs.Claims.{among}
use Rattle.fitting.specs.Fits.{set_word}
use Rattle.distill_rules.specs.Analysed.{analysed}
use Rattle.distill_fits.specs.Laws.{IsLoadOf}
use Rattle.cuts.specs.Listed.{place_of}
use Rattle.distiller.specs.Given.{sets_register, counts, loads, IsSetting}

-- whichever register it is
any_register : (r s v : ℕ) → IsSome (constant_word r v) → IsSome (constant_word s v)
any_register r s v h = by_form (int_le (negsuc 2047) (cast_signed w32 v) && int_le (cast_signed w32 v) (pos 2047)) (eqb (v % 2 ^ 12) 0) h
  where
    by_form : (b d : Bool) → IsSome (option_map spelling (cond b (Some (OpImm Addi r 0 (cast_signed w32 v))) (cond d (Some (Lui r v)) None)))
        → IsSome (option_map spelling (cond b (Some (OpImm Addi s 0 (cast_signed w32 v))) (cond d (Some (Lui s v)) None)))
    by_form true d h = refl
    by_form false true h = refl
    by_form false false h = h

set_some : (v : ℕ) (i : Inst) → IsSome (constant_word 1 v) → sets_register i ≡ true → IsSome (set_word (Some v) i)
set_some v (Load kind rd rs1 off) h e = if_zero (eqb rd 0) e
  where
    if_zero : (b : Bool) → not b ≡ true → IsSome (cond b None (constant_word rd v))
    if_zero true e = cc
    if_zero false e = any_register 1 rd v h
set_some v (Lui rd imm) h e = cc
set_some v (Auipc rd imm) h e = cc
set_some v (Jal rd off) h e = cc
set_some v (Jalr rd rs1 off) h e = cc
set_some v (Branch test rs1 rs2 off) h e = cc
set_some v (Store kind rs1 rs2 off) h e = cc
set_some v (OpImm op rd rs1 imm) h e = cc
set_some v (Op op rd rs1 rs2) h e = cc
set_some v (Fence w) h e = cc
set_some v Ecall h e = cc
set_some v Ebreak h e = cc
set_some v (Illegal w) h e = cc

module _ (word : ℕ → ℕ) (rows : List Tally) where
  pub are_loads : (same : List (ℕ × ℕ)) → All IsSetting same → All (IsLoadOf word) (loads word rows same)
  are_loads [] h = All-nil (IsLoadOf word)
  are_loads (e ∷ es) h = if_counted (counts word rows e.0) refl (are_loads es (All-tail IsSetting e es h))
    where
      here : IsSetting e
      here = All-head IsSetting e es h

      if_counted : (b : Bool) → counts word rows e.0 ≡ b → All (IsLoadOf word) (loads word rows es) → All (IsLoadOf word) (cond b (e ∷ loads word rows es) (loads word rows es))
      if_counted true k rest =
          All-cons (IsLoadOf word) e (loads word rows es)
          (set_some e.1 (meaning (word e.0)) here.0 (and_parts (among (analysed rows) e.0) (sets_register (meaning (word e.0))) k).1, here.1) rest
      if_counted false k rest = rest

  places : (same : List (ℕ × ℕ)) → map place_of (loads word rows same) ≡ filter (counts word rows) (map place_of same)
  places [] = refl
  places (e ∷ es) = if_counted (counts word rows e.0) (places es)
    where
      if_counted : (b : Bool) → map place_of (loads word rows es) ≡ filter (counts word rows) (map place_of es)
          → map place_of (cond b (e ∷ loads word rows es) (loads word rows es)) ≡ cond b (e.0 ∷ filter (counts word rows) (map place_of es)) (filter (counts word rows) (map place_of es))
      if_counted true rest = ap (λ ns. e.0 ∷ ns) rest
      if_counted false rest = rest

  pub loads_rise : (same : List (ℕ × ℕ)) → IsStrictlyIncreasing (map place_of same) → IsStrictlyIncreasing (map place_of (loads word rows same))
  loads_rise same up = subst IsStrictlyIncreasing (sym (places same)) (IsStrictlyIncreasing-filter (counts word rows) (map place_of same) up)

  -- what holds of all that is given holds of those that count
  pub all_loads : (P : ℕ × ℕ → Type 0) (same : List (ℕ × ℕ)) → All P same → All P (loads word rows same)
  all_loads P [] h = All-nil P
  all_loads P (e ∷ es) h = if_counted (counts word rows e.0) (all_loads P es (All-tail P e es h))
    where
      if_counted : (b : Bool) → All P (loads word rows es) → All P (cond b (e ∷ loads word rows es) (loads word rows es))
      if_counted true rest = All-cons P e (loads word rows es) (All-head P e es h) rest
      if_counted false rest = rest
