-- The small image fits, and the ten steps of its run meet what it assumes.
use Rattle.std.proofs.Common.{◌≡◌, ℕ, ◌+◌, ◌<◌, ◌≤◌, zero, suc, Bool, true, false, ◌||◌, cond, Option, Some, None, refl, sym, ap, ◌∙◌, subst, arith, inl, inr, ⊎_elim, ◌⊎◌, true≢false}
use Rattle.std.specs.Prelude.{nat_eq, is_some}
use Rattle.std.proofs.lemmas.Bool.{eqb-true, or_cases, and_parts, cond-true}
use Rattle.cells.specs.declared.Cell.{Cell}
use Rattle.cells.specs.declared.Cell.TheVariants.{Pc, Reg, Byte}
use Rattle.cells.specs.Cells.{Arch}
use Rattle.cells.specs.Run.{is_over}
use Rattle.speculation.specs.World.{World, IsWorld, Spends, is_anchor}
use Rattle.squash_laws.specs.Image.{Fork, IsWords}
use Rattle.squash_laws.specs.Fits.{DoesSame, IsKept, IsPassed, Fits, IsSetting, Meets, arch_at, pc_at, stale, arrived}
use Rattle.squash_laws.proofs.Spending.{spends as image_spends}
use Rattle.speculation_example.specs.Small.{Op, Again, Known, op_of, loads, looks, doing, speculation_example, small_image, small_words, small_world, small_start, small_setting}
use Rattle.speculation_example.proofs.Local.{doing_local, small_local}

-- the pcs with a note are four
at_notes : (P : ℕ → Type 0) → P 0 → P 4 → P 8 → P 12 → (p : ℕ) → small_image.has p ≡ true → P p
at_notes P a b c d p h =
    ⊎_elim
    (λ (x : (nat_eq p 0 || nat_eq p 4 || nat_eq p 8) ≡ true).
    ⊎_elim
    (λ (y : (nat_eq p 0 || nat_eq p 4) ≡ true). ⊎_elim (λ (z : nat_eq p 0 ≡ true). is 0 a z) (λ (z : nat_eq p 4 ≡ true). is 4 b z) (or_cases (nat_eq p 0) (nat_eq p 4) y))
    (λ (y : nat_eq p 8 ≡ true). is 8 c y)
    (or_cases (nat_eq p 0 || nat_eq p 4) (nat_eq p 8) x))
    (λ (x : nat_eq p 12 ≡ true). is 12 d x)
    (or_cases (nat_eq p 0 || nat_eq p 4 || nat_eq p 8) (nat_eq p 12) h)
  where
    is : (q : ℕ) → P q → nat_eq p q ≡ true → P p
    is q x e = subst P (sym (eqb-true p q e)) x

at_anchor : (P : ℕ → Type 0) → P 0 → (p : ℕ) → is_anchor (small_world 8 small_start) p ≡ true → P p
at_anchor P a p e = holds_if_zero (nat_eq p 0) refl e
  where
    holds_if_zero : (b : Bool) → nat_eq p 0 ≡ b → is_some {T = ℕ} (cond b (Some 1) None) ≡ true → P p
    holds_if_zero true same e = subst P (sym (eqb-true p 0 same)) a
    holds_if_zero false same e = absurd (true≢false (sym e))

never : {A : Type 0} → false ≡ true → A
never e = absurd (true≢false (sym e))

pub is_words : IsWords speculation_example small_words
is_words =
    record {
      local = λ word. doing_local (op_of word);
      stops = λ s. refl;
      move = λ s. refl;
      reads = λ s x r. r;
      writes = λ s x. refl;
      reads_mask = λ s r e. e;
      writes_mask = λ s r quiet. refl;
    }

own : (op : Op) (s : Arch) → DoesSame (doing op) (doing op) s
own op s = record { stops = refl; move = refl; reads = λ x r. r; writes = λ x. refl }

abbrev One : ℕ → Type 0
One p = IsKept (small_world 8 small_start) small_words small_image p ⊎ IsPassed (small_world 8 small_start) small_words small_image p

pub fits : Fits (small_world 8 small_start) small_words small_image
fits =
    record {
      anchor_note = at_anchor (λ p. small_image.has p ≡ true) refl;
      anchor_slot = at_anchor (λ p. small_image.slots (small_image.slot_of p) ≡ Some (Fork p)) refl;
      anchor_need = λ p r a l. l;
      each = at_notes One count show again leave;
      live_reads = λ p r h. at_notes (λ p. small_words.reads p p r ≡ true → small_image.live p r ≡ true) (λ e. e) (λ e. e) (λ e. e) (λ e. e) p h;
      live_next = λ p q r h.
          at_notes (λ p. small_image.leads p q ≡ true → small_image.has q ≡ true → small_image.live q r ≡ true → (small_words.writes p p r ≡ true) ⊎ (small_image.live p r ≡ true))
          (λ l k e. inl (e)) (λ l k e. inr (e)) (λ l k e. inr (e)) (λ l k e. never l) p h;
    }
  where
    count : One 0
    count = inl (record { word = 0; slot = refl; does = λ s p code h. own (op_of 0) s; reads = λ s r p code e. e; next = λ q r l h e. inl (e) })

    show : One 4
    show =
        inr (record {
          on = 8;
          place = inr (refl, refl);
          only = λ q l. eqb-true q 8 l;
          need = λ r h e. (e, refl);
          goes_on = λ s e. refl;
          bytes = λ s a e code w. ap (λ p. nat_eq p 4) e;
        })

    -- where byte 96 holds 3
    again : One 8
    again = inl (record { word = 16; slot = refl; does = λ s p code h. known s (loaded s p h); reads = λ s r p code e. e; next = λ q r l h e. inr (e) })
      where
        loaded : (s : Arch) → s.pc ≡ 8 → small_image.holds s ≡ true → s.mem 96 ≡ 3
        loaded s p h = eqb-true (s.mem 96) 3 (ap (λ p. cond (nat_eq p 8) (nat_eq (s.mem 96) 3) true) (sym p) ∙ h)

        looked : (x : Cell) → looks Known x ≡ true → looks Again x ≡ true
        looked Pc r = r
        looked (Reg n) r = r
        looked (Byte a) r = never r

        known : (s : Arch) → s.mem 96 ≡ 3 → DoesSame (doing Known) (doing Again) s
        known s three = record {
          stops = refl;
          move = λ i. record { pc = cond (nat_eq (s.regs 1) (sym three i)) 12 0; regs = s.regs; mem = s.mem };
          reads = looked;
          writes = λ x. refl;
        }

    leave : One 12
    leave = inl (record { word = 12; slot = refl; does = λ s p code h. own (op_of 12) s; reads = λ s r p code e. e; next = λ q r l h e. never l })

-- the ten positions, one by one
below_ten : (P : ℕ → Type 0) → P 0 → P 1 → P 2 → P 3 → P 4 → P 5 → P 6 → P 7 → P 8 → P 9 → (i : ℕ) → i < 10 → P i
below_ten P a b c d e f g h j k zero l = a
below_ten P a b c d e f g h j k (suc zero) l = b
below_ten P a b c d e f g h j k (suc (suc zero)) l = c
below_ten P a b c d e f g h j k (suc (suc (suc zero))) l = d
below_ten P a b c d e f g h j k (suc (suc (suc (suc zero)))) l = e
below_ten P a b c d e f g h j k (suc (suc (suc (suc (suc zero))))) l = f
below_ten P a b c d e f g h j k (suc (suc (suc (suc (suc (suc zero)))))) l = g
below_ten P a b c d e f g h j k (suc (suc (suc (suc (suc (suc (suc zero))))))) l = h
below_ten P a b c d e f g h j k (suc (suc (suc (suc (suc (suc (suc (suc zero)))))))) l = j
below_ten P a b c d e f g h j k (suc (suc (suc (suc (suc (suc (suc (suc (suc zero))))))))) l = k
below_ten P a b c d e f g h j k (suc (suc (suc (suc (suc (suc (suc (suc (suc (suc i)))))))))) l = absurd (omega (arith, l))

abbrev w : World
w = small_world 8 small_start

-- from each of its three passes a task comes back to 0 in three steps, or leaves
abbrev Spans : ℕ → ℕ → Type 0
Spans i c = ((t : ℕ) × (t ≤ 8) × (c ≤ arrived w i t)) ⊎ ((t : ℕ) × (t < 8) × (speculation_example.stops (arch_at w (i + t)) ≡ true))

comes_back : (i c : ℕ) → arrived w i 3 ≡ 1 → ◌≡◌ {A = Option ℕ} (Some 1) (Some c) → Spans i c
comes_back i c a e = let same : 1 ≡ c = cc in inl (3, omega arith, omega (arith, a, same))

spans : (i c : ℕ) → i < 10 → w.anchor (pc_at w i) ≡ Some c → Spans i c
spans i c l e =
    below_ten (λ i. w.anchor (pc_at w i) ≡ Some c → Spans i c)
    (λ e. comes_back 0 c refl e) (λ e. absurd (cc)) (λ e. absurd (cc))
    (λ e. comes_back 3 c refl e) (λ e. absurd (cc)) (λ e. absurd (cc))
    (λ e. inr (3, omega arith, refl)) (λ e. absurd (cc)) (λ e. absurd (cc)) (λ e. absurd (cc)) i l e

pub meets : Meets small_setting
meets =
    record {
      code = λ i l going noted. refl;
      within = λ i l going noted quiet.
          below_ten (λ i. speculation_example.stops (arch_at w i) ≡ false → small_image.has (pc_at w (suc i)) ≡ true)
          (λ q. refl) (λ q. refl) (λ q. refl) (λ q. refl) (λ q. refl) (λ q. refl) (λ q. refl) (λ q. refl) (λ q. refl) (λ q. absurd (true≢false q)) i l quiet;
      follows = λ i l going noted quiet.
          below_ten (λ i. speculation_example.stops (arch_at w i) ≡ false → small_image.leads (pc_at w i) (pc_at w (suc i)) ≡ true)
          (λ q. refl) (λ q. refl) (λ q. refl) (λ q. refl) (λ q. refl) (λ q. refl) (λ q. refl) (λ q. refl) (λ q. refl) (λ q. absurd (true≢false q)) i l quiet;
      fresh = λ i a l going reads.
          subst (λ a. stale small_setting i a ≡ false) (eqb-true 96 a (and_parts (loads (op_of (pc_at w i))) (nat_eq 96 a) reads).1)
          (below_ten (λ i. stale small_setting i 96 ≡ false) refl refl refl refl refl refl refl refl refl refl i l);
      holds = λ i l going. below_ten (λ i. small_image.holds (arch_at w i) ≡ true) refl refl refl refl refl refl refl refl refl refl i l;
      span = λ i c l going anchor none. none (spans i c l anchor);
    }

count_is_one : (p n : ℕ) → w.anchor p ≡ Some n → 0 < n
count_is_one p n e = count_if_zero (nat_eq p 0) e
  where
    count_if_zero : (b : Bool) → ◌≡◌ {A = Option ℕ} (cond b (Some 1) None) (Some n) → 0 < n
    count_if_zero true e = let same : 1 ≡ n = cc in omega (arith, same)
    count_if_zero false e = absurd (cc)

pub master_spends : Spends (small_world 8 small_start)
master_spends = (image_spends w small_words small_image (λ room a. refl)).0

pub is_known : IsWorld (small_world 8 small_start)
is_known =
    record {
      local = small_local;
      moves = λ s going quiet. rw (going, quiet) refl;
      over = λ s over. cond-true (is_over s) s _ over;
      slaves = omega arith;
      limit = omega arith;
      counts = count_is_one;
      room = (image_spends w small_words small_image (λ room a. refl)).1;
    }

pub is_setting : IsSetting small_setting
is_setting =
    record {
      known = is_known;
      words = is_words;
      fits = fits;
      meets = meets;
      drive = λ room a. refl;
      begin = λ a e. refl;
      puts = λ x c quiet. refl;
    }
