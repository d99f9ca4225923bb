-- A word that sets a load's register has 32 bits.
use Rattle.std.proofs.Common.{◌≡◌, ℕ, ◌%◌, ◌^◌, ◌<◌, Bool, true, false, ◌&&◌, cond, Option, Some, None, refl, subst, arith}
use Rattle.std.specs.Prelude.{pos, negsuc, int_le}
use Rattle.std.specs.Option.{option_map}
use lib.Dec.{eqb}
use Rattle.std.specs.Int.{w32, cast_signed}
use Rattle.std.proofs.lemmas.Bool.{eqb-true}
use Rattle.std.proofs.lemmas.Int.{ints}
use Rattle.rv_word.specs.declared.inst.ImmOp.TheVariants.{Addi}
use Rattle.rv_word.specs.declared.inst.Inst.{Inst}
use Rattle.rv_word.specs.declared.inst.Inst.TheVariants.{Lui, OpImm}
use Rattle.rv_word.specs.Spelling.{spelling, IsSigned, IsWellFormed}
use Rattle.rv_word.specs.Constant.{constant_word}
use Rattle.rv_word.proofs.MeaningSpelling.{spelling-lt}
use Rattle.fitting.specs.Fits.{set_word}
use Rattle.distill_fits.proofs.Valued.{set_load, load_register}

same_word : (v w : ℕ) → ◌≡◌ {A = Option ℕ} (Some v) (Some w) → v ≡ w
same_word v w e = cc

constant_small : (rd v w : ℕ) → rd < 2 ^ 5 → v < 2 ^ 32 → constant_word rd v ≡ Some w → w < 2 ^ 32
constant_small rd v w l r e = if_small (int_le (negsuc 2047) (cast_signed w32 v) && int_le (cast_signed w32 v) (pos 2047)) refl e
  where
    small : Inst
    small = OpImm Addi rd 0 (cast_signed w32 v)

    by_low : (b : Bool) → eqb (v % 2 ^ 12) 0 ≡ b → option_map spelling (cond b (Some (Lui rd v)) None) ≡ Some w → w < 2 ^ 32
    by_low true h e = subst (λ n. n < 2 ^ 32) (same_word (spelling (Lui rd v)) w e) (spelling-lt (Lui rd v) (l, r, eqb-true (v % 2 ^ 12) 0 h))
    by_low false h e = cc

    signed : (int_le (negsuc 2047) (cast_signed w32 v) && int_le (cast_signed w32 v) (pos 2047)) ≡ true → IsSigned 11 (cast_signed w32 v)
    signed h = grind (arith, h, ints)

    if_small : (b : Bool) → (int_le (negsuc 2047) (cast_signed w32 v) && int_le (cast_signed w32 v) (pos 2047)) ≡ b
        → option_map spelling (cond b (Some small) (cond (eqb (v % 2 ^ 12) 0) (Some (Lui rd v)) None)) ≡ Some w → w < 2 ^ 32
    if_small true h e = subst (λ n. n < 2 ^ 32) (same_word (spelling small) w e) (spelling-lt small (l, omega arith, signed h))
    if_small false h e = by_low (eqb (v % 2 ^ 12) 0) refl e

pub set_small : (v : ℕ) (i : Inst) (w : ℕ) → IsWellFormed i → v < 2 ^ 32 → set_word (Some v) i ≡ Some w → w < 2 ^ 32
set_small v i w ok l e =
    let x = set_load v i w e in
    constant_small x.rd v w (load_register i x.kind x.rd x.rs1 x.off x.load ok) l x.word
