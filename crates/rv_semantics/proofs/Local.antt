-- What an instruction does rests on what it reads.
use Rattle.std.proofs.Common.{◌≡◌, ℕ, zero, suc, ◌+◌, ◌*◌, ◌%◌, ◌^◌, ◌<◌, Bool, true, false, not, cond, ◌||◌, ◌&&◌, refl, sym, ap, ◌∙◌, subst, List, [], ◌∷◌, ◌++◌, Option, Some, None, is_some, unwrap_or, arith, ⊎_elim, true≢false, eqb-true}
use lib.Dec.{eqb}
use Rattle.std.specs.Prelude.{nat_eq, nat_le}
use Rattle.std.specs.List.{flat_map}
use Rattle.std.proofs.lemmas.Bool.{or_left, or_right, or_cases, eq-eqb, eqb-false}
use Rattle.std.proofs.lemmas.Bool.Decides.{nat_tests}
use Rattle.rv_word.specs.declared.inst.Inst.{Inst}
use Rattle.rv_word.specs.Masks.{sources}
use Rattle.cells.specs.declared.Cell.{Cell}
use Rattle.cells.specs.declared.Cell.TheVariants.{Pc, Reg, Byte}
use Rattle.cells.specs.Cells.{Arch, value, is_pc, same_cell, IsCell}
use Rattle.cells.specs.Bytes.{byte_cells, bytes_from, number}
use Rattle.cells.specs.Machine.{Machine, IsLocal, SameSeen}
use Rattle.cells.specs.Seen.{among, puts_of, given_values, or_first}
use Rattle.rv_semantics.specs.Values.{register_cell, register_value, bytes_of}
use Rattle.rv_semantics.specs.Effect.{Effect, next, effect, effect_at, cells, first, second, load_count, load_from, is_output}
use Rattle.rv_semantics.specs.Prints.{is_short_write, asks, arguments, shown, task_effect, task_cells, task_output}
use Rattle.rv_semantics.specs.Machine.{doing, fetching, word_at, moved, is_next, pc_after}

pub no_pc : (cs : List Cell) → among cs Pc ≡ false
no_pc [] = refl
no_pc (Pc ∷ cs) = no_pc cs
no_pc (Reg n ∷ cs) = no_pc cs
no_pc (Byte a ∷ cs) = no_pc cs

pub no_put : (ps : List (Cell × ℕ)) → puts_of ps Pc ≡ None
no_put [] = refl
no_put ((Pc, v) ∷ ps) = ap (λ o. or_first o None) (no_put ps)
no_put ((Reg n, v) ∷ ps) = ap (λ o. or_first o None) (no_put ps)
no_put ((Byte a, v) ∷ ps) = ap (λ o. or_first o None) (no_put ps)

pub among_append : (xs ys : List Cell) (x : Cell) → among (xs ++ ys) x ≡ (among xs x || among ys x)
among_append [] ys x = refl
among_append (c ∷ xs) ys x = ap (λ b. same_cell c x || b) (among_append xs ys x) ∙ assoc (same_cell c x) (among xs x) (among ys x)
  where
    assoc : (a b c : Bool) → (a || (b || c)) ≡ ((a || b) || c)
    assoc true b c = refl
    assoc false b c = refl

-- the cells read are cells that there are
abbrev pub AreBelow : ℕ → List ℕ → Type 0
AreBelow n [] = Unit {0}
AreBelow n (r ∷ rs) = (r < n) × AreBelow n rs

pub byte_cells_below : (k a : ℕ) (x : Cell) → among (byte_cells k a) x ≡ true → IsCell x
byte_cells_below zero a x e = absurd (true≢false (sym e))
byte_cells_below (suc k) a x e =
    ⊎_elim (λ (h : same_cell (Byte (a % 2 ^ 32)) x ≡ true). here x h) (λ (h : among (byte_cells k (a + 1)) x ≡ true). byte_cells_below k (a + 1) x h)
    (or_cases (same_cell (Byte (a % 2 ^ 32)) x) (among (byte_cells k (a + 1)) x) e)
  where
    here : (x : Cell) → same_cell (Byte (a % 2 ^ 32)) x ≡ true → IsCell x
    here Pc h = tt
    here (Reg n) h = absurd (true≢false (sym h))
    here (Byte b) h = let same = eqb-true (a % 2 ^ 32) b h in omega (arith, same)

register_cells_below : (rs : List ℕ) (x : Cell) → AreBelow 32 rs → among (flat_map register_cell rs) x ≡ true → IsCell x
register_cells_below [] x below e = absurd (true≢false (sym e))
register_cells_below (r ∷ rs) x below e =
    ⊎_elim (λ (h : among (register_cell r) x ≡ true). here (eqb r 0) refl x h) (λ (h : among (flat_map register_cell rs) x ≡ true). register_cells_below rs x below.1 h)
    (or_cases (among (register_cell r) x) (among (flat_map register_cell rs) x) (sym (among_append (register_cell r) (flat_map register_cell rs) x) ∙ e))
  where
    here : (b : Bool) → eqb r 0 ≡ b → (x : Cell) → among (cond b [] (Reg r ∷ [])) x ≡ true → IsCell x
    here true z x h = absurd (true≢false (sym h))
    here false z Pc h = tt
    here false z (Byte a) h = absurd (true≢false (sym h))
    here false z (Reg n) h =
        ⊎_elim
        (λ (e : nat_eq r n ≡ true). subst (λ k. (0 < k) × (k < 32)) (eqb-true r n e) ((let some = eqb-false r 0 z in omega (arith, some)), below.0))
        (λ (e : false ≡ true). absurd (true≢false (sym e)))
        (or_cases (nat_eq r n) false h)

arguments_below : (x : Cell) → among arguments x ≡ true → IsCell x
arguments_below Pc h = tt
arguments_below (Byte a) h = absurd (true≢false (sym h))
arguments_below (Reg r) h = grind (arith, h, nat_tests)

-- values that agree on the cells that the instruction reads
module _ (v w : Cell → ℕ) where
  abbrev Agree : List Cell → Type 0
  Agree cs = (x : Cell) → among cs x ≡ true → v x ≡ w x

  left_part : (xs ys : List Cell) → Agree (xs ++ ys) → Agree xs
  left_part xs ys h x e = h x (among_append xs ys x ∙ or_left (among xs x) (among ys x) e)

  right_part : (xs ys : List Cell) → Agree (xs ++ ys) → Agree ys
  right_part xs ys h x e = h x (among_append xs ys x ∙ or_right (among xs x) (among ys x) e)

  same_register : (r : ℕ) → Agree (register_cell r) → register_value r v ≡ register_value r w
  same_register r =
      elim (eqb r 0) as (λ b. ((x : Cell) → among (cond b [] (Reg r ∷ [])) x ≡ true → v x ≡ w x) → cond b 0 (v (Reg r)) ≡ cond b 0 (w (Reg r)))
      [ true ↦ λ _. refl | false ↦ λ h. h (Reg r) (or_left (nat_eq r r) false (eq-eqb r r refl)) ]

  pub same_number : (k a : ℕ) → Agree (byte_cells k a) → number k a (bytes_of v) ≡ number k a (bytes_of w)
  same_number zero a h = refl
  same_number (suc k) a h =
      let here : v (Byte (a % 2 ^ 32)) ≡ w (Byte (a % 2 ^ 32)) = h (Byte (a % 2 ^ 32)) (or_left (nat_eq (a % 2 ^ 32) (a % 2 ^ 32)) _ (eq-eqb (a % 2 ^ 32) (a % 2 ^ 32) refl)) in
      let rest = same_number k (a + 1) (λ x e. h x (or_right (same_cell (Byte (a % 2 ^ 32)) x) (among (byte_cells k (a + 1)) x) e)) in
      λ i. here i + 2 ^ 8 * rest i

  same_first : (rs : List ℕ) → Agree (flat_map register_cell rs) → first rs v ≡ first rs w
  same_first [] h = refl
  same_first (r ∷ rs) h = same_register r (left_part (register_cell r) (flat_map register_cell rs) h)

  same_second : (rs : List ℕ) → Agree (flat_map register_cell rs) → second rs v ≡ second rs w
  same_second [] h = refl
  same_second (r ∷ rs) h = same_first rs (right_part (register_cell r) (flat_map register_cell rs) h)

  -- have the same effect, and the same cells are read
  pub same_effect : (i : Inst) (pc : ℕ) → Agree (cells i v) → (effect_at i pc v ≡ effect_at i pc w) × (cells i v ≡ cells i w)
  same_effect i pc h =
      let regs = flat_map register_cell (sources i) in
      let from = load_from i (first (sources i) v) in
      let a = same_first (sources i) (left_part regs (byte_cells (load_count i) from) h) in
      let b = same_second (sources i) (left_part regs (byte_cells (load_count i) from) h) in
      let n = same_number (load_count i) from (right_part regs (byte_cells (load_count i) from) h) in
      let m : number (load_count i) from (bytes_of v) ≡ number (load_count i) (load_from i (first (sources i) w)) (bytes_of w) = n ∙ ap (λ x. number (load_count i) (load_from i x) (bytes_of w)) a in
      ((λ j. effect i pc (a j) (b j) (m j)), (λ j. regs ++ byte_cells (load_count i) (load_from i (a j))))

  -- the same holds for a step of a task, and it prints the same
  same_bytes : (k a : ℕ) → Agree (byte_cells k a) → bytes_from k a (bytes_of v) ≡ bytes_from k a (bytes_of w)
  same_bytes zero a h = refl
  same_bytes (suc k) a h =
      let here : v (Byte (a % 2 ^ 32)) ≡ w (Byte (a % 2 ^ 32)) = h (Byte (a % 2 ^ 32)) (or_left (nat_eq (a % 2 ^ 32) (a % 2 ^ 32)) _ (eq-eqb (a % 2 ^ 32) (a % 2 ^ 32) refl)) in
      let rest = same_bytes k (a + 1) (λ x e. h x (or_right (same_cell (Byte (a % 2 ^ 32)) x) (among (byte_cells k (a + 1)) x) e)) in
      λ i. here i ∷ rest i

  argument : (r : ℕ) → Agree (arguments ++ shown v) → among arguments (Reg r) ≡ true → v (Reg r) ≡ w (Reg r)
  argument r h e = left_part arguments (shown v) h (Reg r) e

  short_same : Agree (arguments ++ shown v) → is_short_write v ≡ is_short_write w
  short_same h = λ i. (nat_eq (argument 17 h refl i) 64 && is_output (argument 10 h refl i)) && nat_le (argument 12 h refl i) 256

  shown_same : Agree (arguments ++ shown v) → shown v ≡ shown w
  shown_same h = λ i. cond (short_same h i) (byte_cells (argument 12 h refl i) (argument 11 h refl i)) []

  printed_same : Agree (arguments ++ shown v) → (b : Bool) → is_short_write v ≡ b
      → cond b (bytes_from (v (Reg 12)) (v (Reg 11)) (bytes_of v)) [] ≡ cond b (bytes_from (w (Reg 12)) (w (Reg 11)) (bytes_of w)) []
  printed_same h false e = refl
  printed_same h true e =
      same_bytes (v (Reg 12)) (v (Reg 11)) (subst (λ b. Agree (cond b (byte_cells (v (Reg 12)) (v (Reg 11))) [])) e (right_part arguments (shown v) h))
      ∙ (λ i. bytes_from (argument 12 h refl i) (argument 11 h refl i) (bytes_of w))

  pub record IsSame (prints : ℕ → Bool) (i : Inst) (pc : ℕ) : Type 0 where
    pub effect : task_effect prints i pc v ≡ task_effect prints i pc w
    pub cells : task_cells prints i pc v ≡ task_cells prints i pc w
    pub output : task_output prints i pc v ≡ task_output prints i pc w

  pub same_task : (prints : ℕ → Bool) (i : Inst) (pc : ℕ) → Agree (task_cells prints i pc v) → IsSame prints i pc
  same_task prints i pc h = same_if_asked (asks prints i pc) refl
    where
      own : (effect_at i pc v ≡ effect_at i pc w) × (cells i v ≡ cells i w)
      own = same_effect i pc (right_part (cond (asks prints i pc) (arguments ++ shown v) []) (cells i v) h)

      same_if_asked : (b : Bool) → asks prints i pc ≡ b → IsSame prints i pc
      same_if_asked false e = record {
        effect = ap (λ b. cond (b && is_short_write v) (next pc ((Reg 10, v (Reg 12)) ∷ [])) (effect_at i pc v)) e ∙ own.0 ∙ ap (λ b. cond (b && is_short_write w) (next pc ((Reg 10, w (Reg 12)) ∷ [])) (effect_at i pc w)) (sym e);
        cells = ap (λ b. cond b (arguments ++ shown v) [] ++ cells i v) e ∙ own.1 ∙ ap (λ b. cond b (arguments ++ shown w) [] ++ cells i w) (sym e);
        output = ap (λ b. cond (b && is_short_write v) (bytes_from (v (Reg 12)) (v (Reg 11)) (bytes_of v)) []) e ∙ ap (λ b. cond (b && is_short_write w) (bytes_from (w (Reg 12)) (w (Reg 11)) (bytes_of w)) []) (sym e);
      }
      same_if_asked true e =
          let asked : Agree (arguments ++ shown v) = subst (λ b. Agree (cond b (arguments ++ shown v) [])) e (left_part (cond (asks prints i pc) (arguments ++ shown v) []) (cells i v) h) in
          record {
            effect = λ j. cond (asks prints i pc && short_same asked j) (next pc ((Reg 10, argument 12 asked refl j) ∷ [])) (own.0 j);
            cells = λ j. cond (asks prints i pc) (arguments ++ shown_same asked j) [] ++ own.1 j;
            output = ap (λ b. cond (b && is_short_write v) (bytes_from (v (Reg 12)) (v (Reg 11)) (bytes_of v)) []) e
                ∙ printed_same asked (is_short_write v) refl
                ∙ (λ j. cond (sym e j && short_same asked j) (bytes_from (w (Reg 12)) (w (Reg 11)) (bytes_of w)) []);
          }

put_same : (o : Option ℕ) (a b : ℕ) → is_some o ≡ true → unwrap_or o a ≡ unwrap_or o b
put_same (Some v) a b e = refl
put_same None a b e = absurd (cc)

put_none : (o : Option ℕ) (a : ℕ) → is_some o ≡ false → unwrap_or o a ≡ a
put_none (Some v) a e = absurd (cc)
put_none None a e = refl

-- one instruction
module _ (prints : ℕ → Bool) (i : Inst) where
  alike : (c s : Arch) → SameSeen (doing prints i) c s → IsSame (value c) (value s) prints i c.pc
  alike c s h = same_task (value c) (value s) prints i c.pc (λ x e. sym (h.each x e))

  effects : (c s : Arch) → SameSeen (doing prints i) c s → task_effect prints i s.pc (value s) ≡ task_effect prints i c.pc (value c)
  effects c s h = ap (λ p. task_effect prints i p (value s)) h.pc ∙ sym (alike c s h).effect

  pub doing_flow : (c s : Arch) → SameSeen (doing prints i) c s → (task_effect prints i s.pc (value s)).flow ≡ (task_effect prints i c.pc (value c)).flow
  doing_flow c s h = ap (λ (e : Effect). e.flow) (effects c s h)

  reads_same : (c s : Arch) → SameSeen (doing prints i) c s → task_cells prints i s.pc (value s) ≡ task_cells prints i c.pc (value c)
  reads_same c s h = ap (λ p. task_cells prints i p (value s)) h.pc ∙ sym (alike c s h).cells

  moved_same : (e f : Effect) (c s : Arch) → e ≡ f → s.pc ≡ c.pc → (x : Cell) → is_some (puts_of f.puts x) ≡ true → value (moved e s) x ≡ value (moved f c) x
  unfolding moved given_values
  moved_same e f c s same p Pc o = λ z. pc_after (p z) (same z).flow
  moved_same e f c s same p (Reg n) o = ap (λ (e : Effect). unwrap_or (puts_of e.puts (Reg n)) (s.regs n)) same ∙ put_same (puts_of f.puts (Reg n)) (s.regs n) (c.regs n) o
  moved_same e f c s same p (Byte a) o = ap (λ (e : Effect). unwrap_or (puts_of e.puts (Byte a)) (s.mem a)) same ∙ put_same (puts_of f.puts (Byte a)) (s.mem a) (c.mem a) o

  moved_pc : (e f : Effect) (c s : Arch) → e ≡ f → s.pc ≡ c.pc → (moved e s).pc ≡ (moved f c).pc
  unfolding moved
  moved_pc e f c s same p = λ z. pc_after (p z) (same z).flow

  moved_stays : (e : Effect) (s : Arch) (x : Cell) → is_pc x ≡ false → is_some (puts_of e.puts x) ≡ false → value (moved e s) x ≡ value s x
  unfolding moved given_values
  moved_stays e s Pc np o = absurd (true≢false np)
  moved_stays e s (Reg n) np o = put_none (puts_of e.puts (Reg n)) (s.regs n) o
  moved_stays e s (Byte a) np o = put_none (puts_of e.puts (Byte a)) (s.mem a) o

  own_within : AreBelow 32 (sources i) → (s : Arch) (x : Cell) → among (cells i (value s)) x ≡ true → IsCell x
  own_within below s x e =
      let regs = flat_map register_cell (sources i) in
      let bytes = byte_cells (load_count i) (load_from i (first (sources i) (value s))) in
      ⊎_elim (λ (h : among regs x ≡ true). register_cells_below (sources i) x below h) (λ (h : among bytes x ≡ true). byte_cells_below (load_count i) (load_from i (first (sources i) (value s))) x h)
      (or_cases (among regs x) (among bytes x) (sym (among_append regs bytes x) ∙ e))

  within : AreBelow 32 (sources i) → (s : Arch) (x : Cell) → among (task_cells prints i s.pc (value s)) x ≡ true → IsCell x
  within below s x e =
      ⊎_elim (λ (h : among (cond (asks prints i s.pc) (arguments ++ shown (value s)) []) x ≡ true). asked (asks prints i s.pc) h) (λ (h : among (cells i (value s)) x ≡ true). own_within below s x h)
      (or_cases (among (cond (asks prints i s.pc) (arguments ++ shown (value s)) []) x) (among (cells i (value s)) x) (sym (among_append (cond (asks prints i s.pc) (arguments ++ shown (value s)) []) (cells i (value s)) x) ∙ e))
    where
      bytes : (b : Bool) → among (cond b (byte_cells (s.regs 12) (s.regs 11)) []) x ≡ true → IsCell x
      bytes true h = byte_cells_below (s.regs 12) (s.regs 11) x h
      bytes false h = absurd (true≢false (sym h))

      asked : (b : Bool) → among (cond b (arguments ++ shown (value s)) []) x ≡ true → IsCell x
      asked false h = absurd (true≢false (sym h))
      asked true h =
          ⊎_elim (λ (h : among arguments x ≡ true). arguments_below x h) (λ (h : among (shown (value s)) x ≡ true). bytes (is_short_write (value s)) h)
          (or_cases (among arguments x) (among (shown (value s)) x) (sym (among_append arguments (shown (value s)) x) ∙ h))

  pub doing_local : AreBelow 32 (sources i) → IsLocal (doing prints i)
  doing_local below = record {
    stops = λ c s h. ap (λ (e : Effect). not (is_next e.flow)) (effects c s h);
    reads = λ c s h x. ap (λ cs. among cs x) (reads_same c s h);
    writes = λ c s h quiet x. ap (λ (e : Effect). is_some (puts_of e.puts x)) (effects c s h);
    pc = λ c s h quiet. moved_pc (task_effect prints i s.pc (value s)) (task_effect prints i c.pc (value c)) c s (effects c s h) h.pc;
    says = λ c s h quiet. ap (λ p. task_output prints i p (value s)) h.pc ∙ sym (alike c s h).output;
    put = λ c s h quiet x e. moved_same (task_effect prints i s.pc (value s)) (task_effect prints i c.pc (value c)) c s (effects c s h) h.pc x e;
    stays = λ s quiet x np e. moved_stays (task_effect prints i s.pc (value s)) s x np e;
    within = λ s x e. within below s x e;
    no_pc = λ s. no_pc (task_cells prints i s.pc (value s));
  }

-- the fetched word is among what is read
module _ (does : ℕ → Machine) (each : (w : ℕ) → IsLocal (does w)) where
  abbrev Whole : Machine
  Whole = fetching does

  word_same : (c s : Arch) → SameSeen Whole c s → word_at s ≡ word_at c
  word_same c s h =
      ap (λ p. number 4 p s.mem) h.pc
      ∙ same_number (value s) (value c) 4 c.pc (λ x e. h.each x (or_left (among (byte_cells 4 c.pc) x) ((does (word_at c)).reads c x) e))

  inner : (c s : Arch) → SameSeen Whole c s → SameSeen (does (word_at c)) c s
  inner c s h = record { pc = h.pc; each = λ x e. h.each x (or_right (among (byte_cells 4 c.pc) x) _ e) }

  -- what does the same by its word does the same by the word that is fetched
  pub fetching_same : {A : Type 0} (f : ℕ → Arch → A) → ((w : ℕ) (c s : Arch) → SameSeen (does w) c s → f w s ≡ f w c)
      → (c s : Arch) → SameSeen Whole c s → f (word_at s) s ≡ f (word_at c) c
  fetching_same f same c s h = ap (λ w. f w s) (word_same c s h) ∙ same (word_at c) c s (inner c s h)

  pub fetching_local : IsLocal (fetching does)
  fetching_local = record {
    stops = λ c s h. ap (λ w. (does w).stops s) (word_same c s h) ∙ (each (word_at c)).stops c s (inner c s h);
    reads = λ c s h x.
        let e = ap (λ w. (does w).reads s x) (word_same c s h) ∙ (each (word_at c)).reads c s (inner c s h) x in
        λ z. among (byte_cells 4 (h.pc z)) x || e z;
    writes = λ c s h quiet x. ap (λ w. (does w).writes s x) (word_same c s h) ∙ (each (word_at c)).writes c s (inner c s h) quiet x;
    says = λ c s h quiet. ap (λ w. (does w).says s) (word_same c s h) ∙ (each (word_at c)).says c s (inner c s h) quiet;
    pc = λ c s h quiet. ap (λ w. ((does w).move s).pc) (word_same c s h) ∙ (each (word_at c)).pc c s (inner c s h) quiet;
    put = λ c s h quiet x e. ap (λ w. value ((does w).move s) x) (word_same c s h) ∙ (each (word_at c)).put c s (inner c s h) quiet x e;
    stays = λ s quiet x np e. (each (word_at s)).stays s quiet x np e;
    within = λ s x e.
        ⊎_elim (λ (f : among (byte_cells 4 s.pc) x ≡ true). byte_cells_below 4 s.pc x f) (λ (f : (does (word_at s)).reads s x ≡ true). (each (word_at s)).within s x f)
        (or_cases (among (byte_cells 4 s.pc) x) ((does (word_at s)).reads s x) e);
    no_pc = λ s. λ z. no_pc (byte_cells 4 s.pc) z || (each (word_at s)).no_pc s z;
  }
