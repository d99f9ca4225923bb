-- A word that is no store sets no register but the one that its field names.
use Rattle.std.proofs.Common.{◌≡◌, ℕ, ◌/◌, ◌*◌, ◌%◌, ◌==◌, Bool, true, false, cond, List, [], ◌∷◌, Option, Some, None, refl, ap, true≢false}
use Rattle.std.specs.Prelude.{nat_eq, nat_lt}
use lib.Dec.{eqb}
use Rattle.rv_word.specs.Field.{opcode, rd, rs1, funct3, i_immediate, j_immediate, funct7}
use Rattle.rv_word.specs.declared.inst.Inst.{Inst}
use Rattle.rv_word.specs.declared.inst.Inst.TheVariants.{Jalr, Fence, Ecall, Ebreak, Illegal}
use Rattle.rv_word.specs.Meaning.{meaning, named, or_illegal, lines, tests, load_kinds, store_kinds, imm_op_at, reg_op_at}
use Rattle.cells.specs.declared.Cell.{Cell}
use Rattle.cells.specs.declared.Cell.TheVariants.{Reg}
use Rattle.cells.specs.Seen.{puts_of}
use Rattle.rv_semantics.specs.Values.{register_puts}
use Rattle.rv_semantics.specs.Effect.{effect, jumped, branched, holds, sum32, after, is_store}

-- register q is not put
abbrev Leaves : ℕ → List (Cell × ℕ) → Type 0
Leaves q ps = puts_of ps (Reg q) ≡ None

register_leaves : (r v q : ℕ) → nat_eq r q ≡ false → Leaves q (register_puts r v)
register_leaves r v q other = elim (eqb r 0) as (λ b. Leaves q (cond b [] ((Reg r, v) ∷ []))) [ true ↦ refl | false ↦ ap (λ b. cond b (Some v) None) other ]

jumped_leaves : (q : ℕ) (b : Bool) (to : ℕ) (ps : List (Cell × ℕ)) → Leaves q ps → Leaves q (jumped b to ps).puts
jumped_leaves q true to ps h = h
jumped_leaves q false to ps h = refl

branched_leaves : (q : ℕ) (b : Bool) (pc to : ℕ) → Leaves q (branched b pc to).puts
branched_leaves q true pc to = jumped_leaves q (eqb (to % 4) 0) to [] refl
branched_leaves q false pc to = refl

-- an instruction sets no register but r, unless it is a store
abbrev Sets : ℕ → Inst → Type 0
Sets r i = (pc a b n q : ℕ) → is_store i ≡ false → nat_eq r q ≡ false → Leaves q (effect i pc a b n).puts

module _ (w : ℕ) where
  -- of a name in a table
  by_name : {A : Type 0} (o : Option A) (f : A → Inst) → ((a : A) → Sets (rd w) (f a)) → Sets (rd w) (or_illegal o f w)
  by_name None f h = λ pc a b n q s other. refl
  by_name (Some x) f h = h x

  jalr_sets : (b : Bool) → Sets (rd w) (cond b (Jalr (rd w) (rs1 w) (i_immediate w)) (Illegal w))
  jalr_sets true pc a b n q s other = jumped_leaves q (eqb (sum32 a (i_immediate w) / 2 * 2 % 4) 0) (sum32 a (i_immediate w) / 2 * 2) _ (register_leaves (rd w) (after pc) q other)
  jalr_sets false pc a b n q s other = refl

  fence_sets : (b : Bool) → Sets (rd w) (cond b (Fence w) (Illegal w))
  fence_sets true pc a b n q s other = refl
  fence_sets false pc a b n q s other = refl

  system_sets : (x y : Bool) → Sets (rd w) (cond x Ecall (cond y Ebreak (Illegal w)))
  system_sets true y pc a b n q s other = refl
  system_sets false true pc a b n q s other = refl
  system_sets false false pc a b n q s other = refl

  -- of a line for each opcode
  abbrev AllSet : List (ℕ × (ℕ → Inst)) → Type 0
  AllSet [] = Unit {0}
  AllSet (line ∷ more) = Sets (rd w) (line.1 w) × AllSet more

  by_line : (ls : List (ℕ × (ℕ → Inst))) → AllSet ls → (n : ℕ) → Sets (rd w) (or_illegal (named ls n) (λ line. line w) w)
  by_line [] h n = λ pc a b m q s other. refl
  by_line (line ∷ more) h n =
      elim (n == line.0) as (λ x. Sets (rd w) (or_illegal (cond x (Some line.1) (named more n)) (λ l. l w) w)) [ true ↦ h.0 | false ↦ by_line more h.1 n ]

  pub sets : Sets (rd w) (meaning w)
  sets =
      by_line lines (
        λ pc a b n q s other. register_leaves (rd w) _ q other,
        (
          λ pc a b n q s other. register_leaves (rd w) _ q other,
          (
            λ pc a b n q s other. jumped_leaves q (eqb (sum32 pc (j_immediate w) % 4) 0) (sum32 pc (j_immediate w)) (register_puts (rd w) (after pc)) (register_leaves (rd w) (after pc) q other),
            (
              jalr_sets (funct3 w == 0),
              (
                by_name (named tests (funct3 w)) _ (λ test pc a b n q s other. branched_leaves q (holds test a b) pc _),
                (
                  by_name (named load_kinds (funct3 w)) _ (λ kind pc a b n q s other. register_leaves (rd w) _ q other),
                  (
                    by_name (named store_kinds (funct3 w)) _ (λ kind pc a b n q s other. absurd (true≢false s)),
                    (
                      by_name (imm_op_at (funct3 w) (funct7 w)) _ (λ op pc a b n q s other. register_leaves (rd w) _ q other),
                      (
                        by_name (reg_op_at (funct3 w) (funct7 w)) _ (λ op pc a b n q s other. register_leaves (rd w) _ q other),
                        (
                          fence_sets (nat_lt (funct3 w) 2),
                          (
                            system_sets (w == 0x00000073) (w == 0x00100073),
                            tt,
                          ),
                        ),
                      ),
                    ),
                  ),
                ),
              ),
            ),
          ),
        ),
      ) (opcode w)
