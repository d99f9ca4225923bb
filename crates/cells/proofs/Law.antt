-- Where the record agrees, the steps from s are the steps from the checkpoint.
use Rattle.std.proofs.Common.{◌≡◌, ℕ, ◌<◌, zero, suc, Bool, true, false, ◌||◌, not, cond, refl, sym, ap, ◌∙◌, subst, arith, ⊎_elim, ◌⊎◌, ◌++◌}
use mathlib.Core.Path.{fun_ext}
use Rattle.std.proofs.lemmas.Bool.{or_left, or_right, or_parts, and_from, true≢false}
use Rattle.cells.specs.declared.Cell.{Cell}
use Rattle.cells.specs.declared.Cell.TheVariants.{Pc, Reg, Byte}
use Rattle.cells.specs.Cells.{Arch, value, is_pc, from_cells}
use Rattle.cells.specs.Machine.{Machine, IsLocal, SameSeen}
use Rattle.cells.specs.Task.{moves, said, written, recorded, IsQuiet, Matches, applied, apply}

-- the states whose cells agree are one
pub from_cells-value : (s : Arch) → from_cells (value s) ≡ s
from_cells-value s = refl

pub same_cells : (f g : Cell → ℕ) → ((x : Cell) → f x ≡ g x) → from_cells f ≡ from_cells g
same_cells f g h = ap from_cells (fun_ext h)

pub same_state : (a b : Arch) → ((x : Cell) → value a x ≡ value b x) → a ≡ b
same_state a b h = sym (from_cells-value a) ∙ same_cells (value a) (value b) h ∙ from_cells-value b

-- after t moves, s has the checkpoint's values at Pc and at what was written, and its own elsewhere
pub record Follows (m : Machine) (c s : Arch) (t : ℕ) : Type 0 where
  pub pc : (moves m s t).pc ≡ (moves m c t).pc
  pub put : (x : Cell) → written m c t x ≡ true → value (moves m s t) x ≡ value (moves m c t) x
  pub kept : (x : Cell) → is_pc x ≡ false → written m c t x ≡ false → value (moves m s t) x ≡ value s x

module _ (m : Machine) (local : IsLocal m) where
  -- what no move writes stays
  pub unwritten_stays : (c : Arch) (t : ℕ) → IsQuiet m c t → (x : Cell) → is_pc x ≡ false → written m c t x ≡ false → value (moves m c t) x ≡ value c x
  unwritten_stays c zero quiet x np nw = refl
  unwritten_stays c (suc t) quiet x np nw =
      let parts = or_parts (written m c t x) (m.writes (moves m c t) x) nw in
      local.stays (moves m c t) (quiet t (omega arith)) x np parts.1
      ∙ unwritten_stays c t (λ i h. quiet i (omega arith)) x np parts.0

  pub Matches-less : (c s : Arch) (t : ℕ) → Matches m c (suc t) s → Matches m c t s
  Matches-less c s t h x r = h x (or_left _ _ r)

  -- so both see the same at the next move
  pub sees_same : (c s : Arch) (t : ℕ) → IsQuiet m c t → Matches m c (suc t) s → Follows m c s t → SameSeen m (moves m c t) (moves m s t)
  sees_same c s t quiet h f = record { pc = f.pc; each = λ x r. at x r (written m c t x) refl }
    where
      at : (x : Cell) → m.reads (moves m c t) x ≡ true → (b : Bool) → written m c t x ≡ b → value (moves m s t) x ≡ value (moves m c t) x
      at x r true w = f.put x w
      at Pc r false w = f.pc
      at (Reg n) r false w =
          f.kept (Reg n) refl w
          ∙ h (Reg n) (or_right (recorded m c t (Reg n)) _ (and_from _ _ r (ap not w)))
          ∙ sym (unwritten_stays c t quiet (Reg n) refl w)
      at (Byte a) r false w =
          f.kept (Byte a) refl w
          ∙ h (Byte a) (or_right (recorded m c t (Byte a)) _ (and_from _ _ r (ap not w)))
          ∙ sym (unwritten_stays c t quiet (Byte a) refl w)

  next_put : (c s : Arch) (t : ℕ) → Follows m c s t → SameSeen m (moves m c t) (moves m s t) → m.stops (moves m c t) ≡ false → m.stops (moves m s t) ≡ false
      → (x : Cell) → (written m c t x || m.writes (moves m c t) x) ≡ true → (b : Bool) → m.writes (moves m c t) x ≡ b → value (m.move (moves m s t)) x ≡ value (m.move (moves m c t)) x
  next_put c s t before same here there x w true e = local.put (moves m c t) (moves m s t) same here x e
  next_put c s t before same here there Pc w false e = local.pc (moves m c t) (moves m s t) same here
  next_put c s t before same here there (Reg n) w false e =
      local.stays (moves m s t) there (Reg n) refl (local.writes (moves m c t) (moves m s t) same here (Reg n) ∙ e)
      ∙ before.put (Reg n) (was (Reg n) w e)
      ∙ sym (local.stays (moves m c t) here (Reg n) refl e)
    where
      was : (x : Cell) → (written m c t x || m.writes (moves m c t) x) ≡ true → m.writes (moves m c t) x ≡ false → written m c t x ≡ true
      was x w e = grind arith
  next_put c s t before same here there (Byte a) w false e =
      local.stays (moves m s t) there (Byte a) refl (local.writes (moves m c t) (moves m s t) same here (Byte a) ∙ e)
      ∙ before.put (Byte a) (was (Byte a) w e)
      ∙ sym (local.stays (moves m c t) here (Byte a) refl e)
    where
      was : (x : Cell) → (written m c t x || m.writes (moves m c t) x) ≡ true → m.writes (moves m c t) x ≡ false → written m c t x ≡ true
      was x w e = grind arith

  pub follows : (c s : Arch) (t : ℕ) → IsQuiet m c t → Matches m c t s → Follows m c s t
  follows c s zero quiet h = record { pc = h Pc refl; put = λ x w. absurd (true≢false (sym w)); kept = λ x np w. refl }
  follows c s (suc t) quiet h =
      let before = follows c s t (λ i l. quiet i (omega arith)) (Matches-less c s t h) in
      let same = sees_same c s t (λ i l. quiet i (omega arith)) h before in
      let here = quiet t (omega arith) in
      let there = local.stops (moves m c t) (moves m s t) same ∙ here in
      record {
        pc = local.pc (moves m c t) (moves m s t) same here;
        put = λ x w. next_put c s t before same here there x w (m.writes (moves m c t) x) refl;
        kept = λ x np w.
            let parts = or_parts (written m c t x) (m.writes (moves m c t) x) w in
            local.stays (moves m s t) there x np (local.writes (moves m c t) (moves m s t) same here x ∙ parts.1) ∙ before.kept x np parts.0;
      }

  Matches-upto : (c s : Arch) (t i : ℕ) → i < t → Matches m c t s → Matches m c (suc i) s
  Matches-upto c s zero i l h = absurd (omega arith)
  Matches-upto c s (suc t) i l h =
      ⊎_elim
      (λ (e : i ≡ t). subst (λ k. Matches m c (suc k) s) (sym e) h)
      (λ (e : i < t). Matches-upto c s t i e (Matches-less c s t h))
      (which i t l)
    where
      which : (i t : ℕ) → i < suc t → (i ≡ t) ⊎ (i < t)
      which i t l = grind arith

  -- s meets no call or end either
  pub quiet_too : (c s : Arch) (t : ℕ) → IsQuiet m c t → Matches m c t s → IsQuiet m s t
  quiet_too c s t quiet h i l =
      let less : IsQuiet m c i = λ j k. quiet j (omega arith) in
      let upto = Matches-upto c s t i l h in
      local.stops (moves m c i) (moves m s i) (sees_same c s i less upto (follows c s i less (Matches-less c s i upto))) ∙ quiet i l

  -- at each cell, the moves from s are s with the task's writes and pc
  pub follows_cells : (c s : Arch) (t : ℕ) → IsQuiet m c t → Matches m c t s → (x : Cell) → value (moves m s t) x ≡ applied m c t s x
  follows_cells c s t quiet h Pc = (follows c s t quiet h).pc
  follows_cells c s t quiet h (Reg n) = reg_if_written (written m c t (Reg n)) refl
    where
      reg_if_written : (b : Bool) → written m c t (Reg n) ≡ b → value (moves m s t) (Reg n) ≡ cond b (value (moves m c t) (Reg n)) (value s (Reg n))
      reg_if_written true e = (follows c s t quiet h).put (Reg n) e
      reg_if_written false e = (follows c s t quiet h).kept (Reg n) refl e
  follows_cells c s t quiet h (Byte a) = byte_if_written (written m c t (Byte a)) refl
    where
      byte_if_written : (b : Bool) → written m c t (Byte a) ≡ b → value (moves m s t) (Byte a) ≡ cond b (value (moves m c t) (Byte a)) (value s (Byte a))
      byte_if_written true e = (follows c s t quiet h).put (Byte a) e
      byte_if_written false e = (follows c s t quiet h).kept (Byte a) refl e

  -- the law
  pub jump : (c s : Arch) (t : ℕ) → IsQuiet m c t → Matches m c t s → apply m c t s ≡ moves m s t
  unfolding apply
  jump c s t quiet h =
      same_cells (applied m c t s) (value (moves m s t)) (λ x. sym (follows_cells c s t quiet h x))
      ∙ from_cells-value (moves m s t)

  -- and both write the same cells
  pub same_written : (c s : Arch) (t : ℕ) → IsQuiet m c t → Matches m c t s → (x : Cell) → written m s t x ≡ written m c t x
  same_written c s zero quiet h x = refl
  same_written c s (suc t) quiet h x =
      let less : IsQuiet m c t = λ i l. quiet i (omega arith) in
      let before = Matches-less c s t h in
      let e = same_written c s t less before x in
      let f = local.writes (moves m c t) (moves m s t) (sees_same c s t less h (follows c s t less before)) (quiet t (omega arith)) x in
      λ i. e i || f i

  -- and print the same
  pub same_said : (c s : Arch) (t : ℕ) → IsQuiet m c t → Matches m c t s → said m s t ≡ said m c t
  same_said c s zero quiet h = refl
  same_said c s (suc t) quiet h =
      let less : IsQuiet m c t = λ i l. quiet i (omega arith) in
      let before = Matches-less c s t h in
      let e = same_said c s t less before in
      let f = local.says (moves m c t) (moves m s t) (sees_same c s t less h (follows c s t less before)) (quiet t (omega arith)) in
      λ i. e i ++ f i
