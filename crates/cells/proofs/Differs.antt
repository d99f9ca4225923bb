-- Which cell `differ` tells: the parts of its definition one by one, and that it is the first that differs.
use Rattle.std.proofs.Common.{◌≡◌, ℕ, ◌<◌, ◌^◌, Bool, true, false, cond, Option, Some, None, ap, sym, refl, true≢false}
use Rattle.std.specs.Prelude.{option_map, unwrap_or, nat_eq}
use Rattle.std.proofs.lemmas.Bool.{eqb-false, not-true}
use Rattle.cells.specs.declared.Cell.{Cell}
use Rattle.cells.specs.declared.Cell.TheVariants.{Pc, Reg, Byte}
use Rattle.cells.specs.declared.Differ.{Differ}
use Rattle.cells.specs.Cells.{IsCell}
use Rattle.cells.specs.Differ.{is_other, differs, or_else, as_cell, first_reg, first_byte, told, differ, IsBefore, IsPlace, IsFirst, IsFirstDiffer}
use Rattle.cells.proofs.FirstWhere.{first_where_none, first_where_some}

-- a recorded value that is not the one found
other_told : (o : Option ℕ) (v : ℕ) → is_other o v ≡ true → (o ≡ Some (unwrap_or o 0)) × (unwrap_or o 0 ≡ v → ⊥)
other_told None v e = absurd (true≢false (sym e))
other_told (Some p) v e = (refl, eqb-false p v (not-true (nat_eq p v) e))

pub cell_is_place : (x : Cell) → IsCell x → IsPlace x
cell_is_place Pc c = tt
cell_is_place (Reg n) c = c.1
cell_is_place (Byte a) c = c

module _ (recorded : Cell → Option ℕ) (found : Cell → ℕ) where
  abbrev of_parts : Bool → Option ℕ → Option ℕ → Option Differ
  of_parts b r a = option_map (told recorded found) (or_else (cond b (Some Pc) None) (or_else (as_cell Reg r) (as_cell Byte a)))

  pub differ_pc : differs recorded found Pc ≡ true → differ recorded found ≡ Some (told recorded found Pc)
  unfolding differ
  differ_pc p = ap (λ b. of_parts b (first_reg recorded found) (first_byte recorded found)) p

  pub differ_reg : (r : ℕ) → differs recorded found Pc ≡ false → first_reg recorded found ≡ Some r → differ recorded found ≡ Some (told recorded found (Reg r))
  unfolding differ
  differ_reg r p q = λ i. of_parts (p i) (q i) (first_byte recorded found)

  pub differ_byte : (o : Option ℕ) → differs recorded found Pc ≡ false → first_reg recorded found ≡ None → first_byte recorded found ≡ o → differ recorded found ≡ option_map (told recorded found) (as_cell Byte o)
  unfolding differ
  differ_byte o p q r = λ i. of_parts (p i) (q i) (r i)

  -- what is told of a differing cell, when none differs before it
  is_first : (x : Cell) → IsPlace x → differs recorded found x ≡ true → ((y : Cell) → IsPlace y → IsBefore y x → differs recorded found y ≡ false) → IsFirst recorded found (told recorded found x)
  is_first x cell d before =
      let t = other_told (recorded x) (found x) d in record { is_place = cell; was_recorded = t.0; is_found = refl; other = t.1; first = before }

  before_pc : (y : Cell) → IsPlace y → IsBefore y Pc → differs recorded found y ≡ false
  before_pc Pc c b = absurd b
  before_pc (Reg n) c b = absurd b
  before_pc (Byte a) c b = absurd b

  before_reg : (r : ℕ) → differs recorded found Pc ≡ false → ((n : ℕ) → n < r → differs recorded found (Reg n) ≡ false) → (y : Cell) → IsPlace y → IsBefore y (Reg r) → differs recorded found y ≡ false
  before_reg r p q Pc c b = p
  before_reg r p q (Reg n) c b = q n b
  before_reg r p q (Byte a) c b = absurd b

  before_byte : (k : ℕ) → differs recorded found Pc ≡ false → ((n : ℕ) → n < 32 → differs recorded found (Reg n) ≡ false) → ((a : ℕ) → a < k → differs recorded found (Byte a) ≡ false) → (y : Cell) → IsPlace y → IsBefore y (Byte k) → differs recorded found y ≡ false
  before_byte k p q r Pc c b = p
  before_byte k p q r (Reg n) c b = q n c
  before_byte k p q r (Byte a) c b = r a b

  nowhere : differs recorded found Pc ≡ false → ((n : ℕ) → n < 32 → differs recorded found (Reg n) ≡ false) → ((a : ℕ) → a < 2 ^ 32 → differs recorded found (Byte a) ≡ false) → (y : Cell) → IsPlace y → differs recorded found y ≡ false
  nowhere p q r Pc c = p
  nowhere p q r (Reg n) c = q n c
  nowhere p q r (Byte a) c = r a c

  by_bytes : (o : Option ℕ) → first_byte recorded found ≡ o → differs recorded found Pc ≡ false → ((n : ℕ) → n < 32 → differs recorded found (Reg n) ≡ false) → IsFirstDiffer recorded found (option_map (told recorded found) (as_cell Byte o))
  by_bytes None e p q = nowhere p q (first_where_none (λ a. differs recorded found (Byte a)) (2 ^ 32) e)
  by_bytes (Some k) e p q =
      let f = first_where_some (λ a. differs recorded found (Byte a)) (2 ^ 32) k e in
      is_first (Byte k) f.1 f.0 (before_byte k p q f.2)

  by_registers : (o : Option ℕ) → first_reg recorded found ≡ o → differs recorded found Pc ≡ false → IsFirstDiffer recorded found (option_map (told recorded found) (or_else (as_cell Reg o) (as_cell Byte (first_byte recorded found))))
  by_registers None e p = by_bytes (first_byte recorded found) refl p (first_where_none (λ n. differs recorded found (Reg n)) 32 e)
  by_registers (Some r) e p =
      let f = first_where_some (λ n. differs recorded found (Reg n)) 32 r e in
      is_first (Reg r) f.1 f.0 (before_reg r p f.2)

  by_pc : (b : Bool) → differs recorded found Pc ≡ b → IsFirstDiffer recorded found (of_parts b (first_reg recorded found) (first_byte recorded found))
  by_pc true e = is_first Pc tt e before_pc
  by_pc false e = by_registers (first_reg recorded found) refl e

  pub differ_first : IsFirstDiffer recorded found (differ recorded found)
  unfolding differ
  differ_first = by_pc (differs recorded found Pc) refl
