-- The small machine is local.
use Rattle.std.proofs.Common.{◌≡◌, ◌+◌, true, false, cond, [], ◌∷◌, refl, sym, ap, ◌∙◌, arith, true≢false}
use Rattle.std.specs.Prelude.{nat_eq}
use Rattle.std.proofs.lemmas.Bool.{cond-true, cond-false, eqb-true, and_parts}
use Rattle.cells.specs.declared.Cell.{Cell}
use Rattle.cells.specs.declared.Cell.TheVariants.{Pc, Reg, Byte}
use Rattle.cells.specs.Cells.{Arch, value, is_pc, IsCell}
use Rattle.cells.specs.Machine.{SameSeen, IsLocal}
use Rattle.speculation_example.specs.Small.{Op, Count, Show, Again, Known, Leave, op_of, leaves, after, shown, loads, looks, sets, doing, speculation_example}

-- a register and a byte are looked at
looked_cell : (op : Op) (x : Cell) → looks op x ≡ true → IsCell x
looked_cell op Pc e = tt
looked_cell op (Reg n) e = let same = eqb-true 1 n e in (omega (arith, same), omega (arith, same))
looked_cell op (Byte a) e = let same = eqb-true 96 a (and_parts (loads op) (nat_eq 96 a) e).1 in omega (arith, same)

-- what is put rests on what is looked at
put_same : (op : Op) (c s : Arch) → SameSeen (doing op) c s → leaves op ≡ false → (x : Cell) → sets op x ≡ true → value (after op s) x ≡ value (after op c) x
put_same Count c s same quiet Pc w = absurd (true≢false (sym w))
put_same Count c s same quiet (Reg n) w =
    cond-true (nat_eq 1 n) (s.regs 1 + 1) (s.regs n) w ∙ ap (λ v. v + 1) (same.each (Reg 1) refl) ∙ sym (cond-true (nat_eq 1 n) (c.regs 1 + 1) (c.regs n) w)
put_same Count c s same quiet (Byte a) w = absurd (true≢false (sym w))
put_same Show c s same quiet Pc w = absurd (true≢false (sym w))
put_same Show c s same quiet (Reg n) w = absurd (true≢false (sym w))
put_same Show c s same quiet (Byte a) w =
    cond-true (nat_eq 100 a) (s.regs 1) (s.mem a) w ∙ same.each (Reg 1) refl ∙ sym (cond-true (nat_eq 100 a) (c.regs 1) (c.mem a) w)
put_same Again c s same quiet x w = absurd (true≢false (sym w))
put_same Known c s same quiet x w = absurd (true≢false (sym w))
put_same Leave c s same quiet x w = absurd (true≢false quiet)

stays_same : (op : Op) (s : Arch) → leaves op ≡ false → (x : Cell) → is_pc x ≡ false → sets op x ≡ false → value (after op s) x ≡ value s x
stays_same op s quiet Pc np w = absurd (true≢false np)
stays_same Count s quiet (Reg n) np w = cond-false (nat_eq 1 n) (s.regs 1 + 1) (s.regs n) w
stays_same Count s quiet (Byte a) np w = refl
stays_same Show s quiet (Reg n) np w = refl
stays_same Show s quiet (Byte a) np w = cond-false (nat_eq 100 a) (s.regs 1) (s.mem a) w
stays_same Again s quiet (Reg n) np w = refl
stays_same Again s quiet (Byte a) np w = refl
stays_same Known s quiet (Reg n) np w = refl
stays_same Known s quiet (Byte a) np w = refl
stays_same Leave s quiet x np w = absurd (true≢false quiet)

pc_same : (op : Op) (c s : Arch) → SameSeen (doing op) c s → leaves op ≡ false → (after op s).pc ≡ (after op c).pc
pc_same Count c s same quiet = ap (λ p. p + 4) same.pc
pc_same Show c s same quiet = ap (λ p. p + 4) same.pc
pc_same Again c s same quiet = λ i. cond (nat_eq (same.each (Reg 1) refl i) (same.each (Byte 96) refl i)) 12 0
pc_same Known c s same quiet = ap (λ v. cond (nat_eq v 3) 12 0) (same.each (Reg 1) refl)
pc_same Leave c s same quiet = absurd (true≢false quiet)

says_same : (op : Op) (c s : Arch) → SameSeen (doing op) c s → leaves op ≡ false → shown op s ≡ shown op c
says_same Count c s same quiet = refl
says_same Show c s same quiet = ap (λ v. v ∷ []) (same.each (Reg 1) refl)
says_same Again c s same quiet = refl
says_same Known c s same quiet = refl
says_same Leave c s same quiet = refl

pub doing_local : (op : Op) → IsLocal (doing op)
doing_local op =
    record {
      stops = λ c s same. refl;
      reads = λ c s same x. refl;
      writes = λ c s same quiet x. refl;
      pc = λ c s same quiet. pc_same op c s same quiet;
      says = λ c s same quiet. says_same op c s same quiet;
      put = λ c s same quiet x w. put_same op c s same quiet x w;
      stays = λ s quiet x np w. stays_same op s quiet x np w;
      within = λ s x r. looked_cell op x r;
      no_pc = λ s. refl;
    }

-- the instruction is the one at the pc, and the pcs are the same
at_one : (c s : Arch) → SameSeen speculation_example c s → SameSeen (doing (op_of c.pc)) c s
at_one c s same = record { pc = same.pc; each = λ x r. same.each x r }

pub small_local : IsLocal speculation_example
small_local =
    record {
      stops = λ c s same. ap (λ p. leaves (op_of p)) same.pc;
      reads = λ c s same x. ap (λ p. looks (op_of p) x) same.pc;
      writes = λ c s same quiet x. ap (λ p. sets (op_of p) x) same.pc;
      pc = λ c s same quiet. ap (λ p. (after (op_of p) s).pc) same.pc ∙ pc_same (op_of c.pc) c s (at_one c s same) quiet;
      says = λ c s same quiet. ap (λ p. shown (op_of p) s) same.pc ∙ says_same (op_of c.pc) c s (at_one c s same) quiet;
      put = λ c s same quiet x w. ap (λ p. value (after (op_of p) s) x) same.pc ∙ put_same (op_of c.pc) c s (at_one c s same) quiet x w;
      stays = λ s quiet x np w. stays_same (op_of s.pc) s quiet x np w;
      within = λ s x r. looked_cell (op_of s.pc) x r;
      no_pc = λ s. refl;
    }
