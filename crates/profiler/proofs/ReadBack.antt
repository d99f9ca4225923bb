-- Bytes that are read back one after another.
use Rattle.std.proofs.Common.{◌≡◌, ℕ, zero, suc, ◌+◌, ◌-◌, ◌%◌, ◌^◌, ◌<◌, ◌≤◌, ◌==◌, Bool, true, false, ◌||◌, cond, All, inl, inr, List, [], ◌∷◌, length, set, get_or, refl, sym, ap, ◌∙◌, subst, arith}
use Rattle.std.specs.Prelude.{nat_eq}
use Rattle.std.proofs.lemmas.Bool.{eq-eqb, or_left, or_right}
use Rattle.std.proofs.lemmas.List.Elements.{All-head, All-tail, All-nil, All-cons, All-set, All-get_or}
use Rattle.std.proofs.lemmas.List.Sums.{sum_by-cons}
use Rattle.profile_data.specs.Profile.{Tally, target_count}
use Rattle.fitting.specs.Claims.{among}
use Rattle.profile_laws.specs.Profiles.{IsWide}
use Rattle.profile_laws.specs.Tally.{places, read_back, marked, updated, as_read, Kept}
use Rattle.access_trace.proofs.Places.{places_modulo}
use Rattle.profiler.specs.Rows.{HasRoom}
use Rattle.profiler.specs.Noted.{AreNoted}

places_next : (n a : ℕ) → places (suc n) a ≡ a % 2 ^ 32 ∷ places n (a + 1)
unfolding places
places_next n a = refl

-- one more byte was read back, and others are still to do
pub read_more : (w : ℕ → ℕ) (n a i : ℕ) (ts us : List Tally) → i < n → us ≡ marked (w ((a + i) % 2 ^ 32)) ts
    → read_back w (places (n - (i + 1)) (a + (i + 1))) us ≡ read_back w (places (n - i) (a + i)) ts
read_more w n a i ts us lt is =
    let k : n - i ≡ suc (n - (i + 1)) = omega arith in
    let p : a + (i + 1) ≡ a + i + 1 = omega arith in
    ap (λ vs. read_back w (places (n - (i + 1)) (a + (i + 1))) vs) is
    ∙ ap (λ b. read_back w (places (n - (i + 1)) b) (marked (w ((a + i) % 2 ^ 32)) ts)) p
    ∙ sym (ap (λ m. read_back w (places m (a + i)) ts) k ∙ ap (λ ms. read_back w ms ts) (places_next (n - (i + 1)) (a + i)))

pub read_all : (w : ℕ → ℕ) (n a i : ℕ) (ts us : List Tally) → n ≤ i → read_back w (places (n - i) (a + i)) ts ≡ us → ts ≡ us
unfolding places
read_all w n a i ts us le h = ap (λ m. read_back w (places m (a + i)) ts) (let e : 0 ≡ n - i = omega arith in e) ∙ h

-- a mark that is not 0
pub marked_at : (w pc : ℕ) (ts : List Tally) → w ≡ pc + 1 → marked w ts ≡ marked (suc pc) ts
marked_at w pc ts e = ap (λ v. marked v ts) (e ∙ (let s : pc + 1 ≡ suc pc = omega arith in s))

pub no_places : (n from a : ℕ) → n ≡ 0 → among (places n from) a ≡ false
unfolding places
no_places zero from a e = refl
no_places (suc n) from a e = absurd (omega arith)

-- ---- what stays when a row is read back

module _ (pc : ℕ) where
  pub same_targets : (ts : List Tally) → target_count (updated pc as_read ts) ≡ target_count ts
  same_targets [] = refl
  same_targets (t ∷ ts) = at_first (t.pc == pc) (same_targets ts)
    where
      at_first : (b : Bool) → target_count (updated pc as_read ts) ≡ target_count ts → target_count (cond b (as_read t ∷ ts) (t ∷ updated pc as_read ts)) ≡ target_count (t ∷ ts)
      at_first true rest =
          let a = sum_by-cons (λ (x : Tally). length x.targets) (as_read t) ts in
          let b = sum_by-cons (λ (x : Tally). length x.targets) t ts in
          omega arith
      at_first false rest =
          let a = sum_by-cons (λ (x : Tally). length x.targets) t (updated pc as_read ts) in
          let b = sum_by-cons (λ (x : Tally). length x.targets) t ts in
          omega arith

  pub same_length : (ts : List Tally) → length (updated pc as_read ts) ≡ length ts
  same_length [] = refl
  same_length (t ∷ ts) = at_first (t.pc == pc) (same_length ts)
    where
      at_first : (b : Bool) → length (updated pc as_read ts) ≡ length ts → length (cond b (as_read t ∷ ts) (t ∷ updated pc as_read ts)) ≡ length (t ∷ ts)
      at_first true rest = omega arith
      at_first false rest = omega arith

  same_room : (ts : List Tally) → All HasRoom ts → All HasRoom (updated pc as_read ts)
  same_room [] room = room
  same_room (t ∷ ts) room = at_first (t.pc == pc) (same_room ts (All-tail HasRoom t ts room))
    where
      first : HasRoom t
      first = All-head HasRoom t ts room

      at_first : (b : Bool) → All HasRoom (updated pc as_read ts) → All HasRoom (cond b (as_read t ∷ ts) (t ∷ updated pc as_read ts))
      at_first true rest =
          All-cons HasRoom (as_read t) ts (record { executed = first.executed; taken = first.taken; targets_rise = first.targets_rise }) (All-tail HasRoom t ts room)
      at_first false rest = All-cons HasRoom t (updated pc as_read ts) first rest

-- the numbers of rows and of targets, and the room
pub record Stays (ts us : List Tally) : Type 0 where
  pub targets : target_count us ≡ target_count ts
  pub rows : length us ≡ length ts
  pub room : All HasRoom ts → All HasRoom us

mark_stays : (w : ℕ) (ts : List Tally) → Stays ts (marked w ts)
mark_stays zero ts = record { targets = refl; rows = refl; room = λ h. h }
mark_stays (suc pc) ts = record { targets = same_targets pc ts; rows = same_length pc ts; room = same_room pc ts }

pub read_back_stays : (w : ℕ → ℕ) (ms : List ℕ) (ts : List Tally) → Stays ts (read_back w ms ts)
read_back_stays w [] ts = record { targets = refl; rows = refl; room = λ h. h }
read_back_stays w (a ∷ ms) ts =
    let first = mark_stays (w a) ts in
    let rest = read_back_stays w ms (marked (w a) ts) in
    record { targets = rest.targets ∙ first.targets; rows = rest.rows ∙ first.rows; room = λ h. rest.room (first.room h) }

-- after the bytes of the word and those of a load
pub twice_stays : (w : ℕ → ℕ) (ms ns : List ℕ) (ts us vs : List Tally) → us ≡ read_back w ms ts → vs ≡ read_back w ns us → Stays ts vs
twice_stays w ms ns ts us vs e f =
    subst (Stays ts) (sym (f ∙ ap (read_back w ns) e))
    (let a = read_back_stays w ms ts in let b = read_back_stays w ns (read_back w ms ts) in
    record { targets = b.targets ∙ a.targets; rows = b.rows ∙ a.rows; room = λ h. b.room (a.room h) })

pub narrow_stays : (ts us : List Tally) → Stays ts us → (IsWide ts → ⊥) → IsWide us → ⊥
narrow_stays ts us same narrow (inl h) = narrow (inl (let e = same.rows in omega arith))
narrow_stays ts us same narrow (inr h) = narrow (inr (let e = same.targets in omega arith))

-- what is kept, part by part
pub kept_is : (a b : List Tally) (f g : ℕ → ℕ) → a ≡ b → ((n : ℕ) → f n ≡ g n) → let k : Kept = record { rows = a; writers = f } in let l : Kept = record { rows = b; writers = g } in k ≡ l
kept_is a b f g e h = λ i. record { rows = e i; writers = λ n. h n i }

pub nothing : (w : ℕ → ℕ) (n a : ℕ) (ts : List Tally) → n ≡ 0 → ts ≡ read_back w (places n a) ts
unfolding places
nothing w zero a ts e = refl
nothing w (suc n) a ts e = absurd (omega arith)

-- a mark that is noted once more
pub marked_again : (w : ℕ) (ts : List Tally) → marked w (marked w ts) ≡ marked w ts
marked_again zero ts = refl
marked_again (suc pc) ts = again ts
  where
    again : (ts : List Tally) → updated pc as_read (updated pc as_read ts) ≡ updated pc as_read ts
    again [] = refl
    again (t ∷ ts) = at_first (t.pc == pc) refl (again ts)
      where
        at_first : (b : Bool) → (t.pc == pc) ≡ b → updated pc as_read (updated pc as_read ts) ≡ updated pc as_read ts
            → updated pc as_read (cond b (as_read t ∷ ts) (t ∷ updated pc as_read ts)) ≡ cond b (as_read t ∷ ts) (t ∷ updated pc as_read ts)
        at_first true e rest = ap (λ c. cond c (as_read (as_read t) ∷ ts) (as_read t ∷ updated pc as_read ts)) e
        at_first false e rest = ap (λ c. cond c (as_read t ∷ updated pc as_read ts) (t ∷ updated pc as_read (updated pc as_read ts))) e ∙ ap (λ us. t ∷ us) rest

-- marks are noted in any order
swapped : (p q : ℕ) (ts : List Tally) → updated p as_read (updated q as_read ts) ≡ updated q as_read (updated p as_read ts)
swapped p q [] = refl
swapped p q (t ∷ ts) = at_first (t.pc == p) (t.pc == q) refl refl (swapped p q ts)
  where
    at_first : (x y : Bool) → (t.pc == p) ≡ x → (t.pc == q) ≡ y → updated p as_read (updated q as_read ts) ≡ updated q as_read (updated p as_read ts)
        → updated p as_read (cond y (as_read t ∷ ts) (t ∷ updated q as_read ts)) ≡ updated q as_read (cond x (as_read t ∷ ts) (t ∷ updated p as_read ts))
    at_first true true e f rest =
        ap (λ c. cond c (as_read (as_read t) ∷ ts) (as_read t ∷ updated p as_read ts)) e
        ∙ sym (ap (λ c. cond c (as_read (as_read t) ∷ ts) (as_read t ∷ updated q as_read ts)) f)
    at_first true false e f rest =
        ap (λ c. cond c (as_read t ∷ updated q as_read ts) (t ∷ updated p as_read (updated q as_read ts))) e
        ∙ sym (ap (λ c. cond c (as_read (as_read t) ∷ ts) (as_read t ∷ updated q as_read ts)) f)
    at_first false true e f rest =
        ap (λ c. cond c (as_read (as_read t) ∷ ts) (as_read t ∷ updated p as_read ts)) e
        ∙ sym (ap (λ c. cond c (as_read t ∷ updated p as_read ts) (t ∷ updated q as_read (updated p as_read ts))) f)
    at_first false false e f rest =
        ap (λ c. cond c (as_read t ∷ updated q as_read ts) (t ∷ updated p as_read (updated q as_read ts))) e
        ∙ ap (λ us. t ∷ us) rest
        ∙ sym (ap (λ c. cond c (as_read t ∷ updated p as_read ts) (t ∷ updated q as_read (updated p as_read ts))) f)

marked_swapped : (v w : ℕ) (ts : List Tally) → marked v (marked w ts) ≡ marked w (marked v ts)
marked_swapped zero w ts = refl
marked_swapped (suc p) zero ts = refl
marked_swapped (suc p) (suc q) ts = swapped p q ts

-- what was noted stays so, and so is what is noted now
pub noted_stay : (marks : List ℕ) (w : ℕ) (ts : List Tally) → AreNoted marks ts → AreNoted marks (marked w ts)
noted_stay [] w ts all = All-nil (λ v. marked v (marked w ts) ≡ marked w ts)
noted_stay (v ∷ marks) w ts all =
    All-cons (λ v. marked v (marked w ts) ≡ marked w ts) v marks
    (marked_swapped v w ts ∙ ap (marked w) (All-head (λ v. marked v ts ≡ ts) v marks all))
    (noted_stay marks w ts (All-tail (λ v. marked v ts ≡ ts) v marks all))

pub noted_too : (marks : List ℕ) (place w : ℕ) (ts : List Tally) → AreNoted marks ts → AreNoted (set marks place w) (marked w ts)
noted_too marks place w ts all = All-set (λ v. marked v (marked w ts) ≡ marked w ts) marks place w (marked_again w ts) (noted_stay marks w ts all)

pub noted_at : (marks : List ℕ) (place w d : ℕ) (ts : List Tally) → AreNoted marks ts → place < length marks → get_or marks place d ≡ w → ts ≡ marked w ts
noted_at marks place w d ts all within is = sym (subst (λ v. marked v ts ≡ ts) is (All-get_or (λ v. marked v ts ≡ ts) marks place d within all))

-- bytes are read first ones first
read_split : (w : ℕ → ℕ) (first count from : ℕ) (ts : List Tally) → read_back w (places (first + count) from) ts ≡ read_back w (places count (from + first)) (read_back w (places first from) ts)
unfolding places
read_split w zero count from ts =
    ap (λ n. read_back w (places n from) ts) (let e : 0 + count ≡ count = omega arith in e)
    ∙ ap (λ a. read_back w (places count a) ts) (let e : from ≡ from + 0 = omega arith in e)
read_split w (suc first) count from ts =
    ap (λ n. read_back w (places n from) ts) (let e : suc first + count ≡ suc (first + count) = omega arith in e)
    ∙ read_split w first count (from + 1) (marked (w (from % 2 ^ 32)) ts)
    ∙ ap (λ a. read_back w (places count a) (read_back w (places first (from + 1)) (marked (w (from % 2 ^ 32)) ts))) (let e : from + 1 + first ≡ from + suc first = omega arith in e)

pub read_first : (w : ℕ → ℕ) (first count from next : ℕ) (ts us : List Tally) → first ≤ count → next ≡ (from + first) % 2 ^ 32 → us ≡ read_back w (places first from) ts
    → read_back w (places (count - first) next) us ≡ read_back w (places count from) ts
read_first w first count from next ts us le next_is is =
    ap (read_back w (places (count - first) next)) is
    ∙ ap (λ ms. read_back w ms (read_back w (places first from) ts)) (places_modulo (count - first) next (from + first) (omega arith))
    ∙ sym (read_split w first (count - first) from ts)
    ∙ ap (λ n. read_back w (places n from) ts) (let e : first + (count - first) ≡ count = omega arith in e)

-- bytes that all have one mark, of which there are some
pub all_alike : (w : ℕ → ℕ) (mark n a : ℕ) (ts : List Tally) → 0 < n → ((b : ℕ) → among (places n a) b ≡ true → w b ≡ mark) → marked mark ts ≡ read_back w (places n a) ts
unfolding places
all_alike w mark zero a ts some alike = absurd (omega arith)
all_alike w mark (suc n) a ts some alike =
    let here : w (a % 2 ^ 32) ≡ mark = first n a alike in
    ap (λ m. marked m ts) (sym here)
    ∙ sym (others n (a + 1) (rest n a alike) (marked (w (a % 2 ^ 32)) ts) (ap (λ m. marked mark (marked m ts)) here ∙ marked_again mark ts ∙ ap (λ m. marked m ts) (sym here)))
  where
    first : (n a : ℕ) → ((b : ℕ) → (nat_eq (a % 2 ^ 32) b || among (places n (a + 1)) b) ≡ true → w b ≡ mark) → w (a % 2 ^ 32) ≡ mark
    first n a alike = alike (a % 2 ^ 32) (or_left (nat_eq (a % 2 ^ 32) (a % 2 ^ 32)) (among (places n (a + 1)) (a % 2 ^ 32)) (eq-eqb (a % 2 ^ 32) (a % 2 ^ 32) refl))

    rest : (n a : ℕ) → ((b : ℕ) → (nat_eq (a % 2 ^ 32) b || among (places n (a + 1)) b) ≡ true → w b ≡ mark) → (b : ℕ) → among (places n (a + 1)) b ≡ true → w b ≡ mark
    rest n a alike b there = alike b (or_right (nat_eq (a % 2 ^ 32) b) (among (places n (a + 1)) b) there)

    others : (n a : ℕ) → ((b : ℕ) → among (places n a) b ≡ true → w b ≡ mark) → (us : List Tally) → marked mark us ≡ us → read_back w (places n a) us ≡ us
    others zero a alike us noted = refl
    others (suc n) a alike us noted =
        ap (read_back w (places n (a + 1))) (ap (λ m. marked m us) (first n a alike) ∙ noted) ∙ others n (a + 1) (rest n a alike) us noted

-- ---- bytes that are read in another order, and once more

module _ (w : ℕ → ℕ) where
  through : (ms : List ℕ) (a : ℕ) (ts : List Tally) → read_back w ms (marked a ts) ≡ marked a (read_back w ms ts)
  through [] a ts = refl
  through (m ∷ ms) a ts = ap (read_back w ms) (marked_swapped (w m) a ts) ∙ through ms a (marked (w m) ts)

  lists_swap : (ms ns : List ℕ) (ts : List Tally) → read_back w ms (read_back w ns ts) ≡ read_back w ns (read_back w ms ts)
  lists_swap [] ns ts = refl
  lists_swap (m ∷ ms) ns ts = ap (read_back w ms) (sym (through ns (w m) ts)) ∙ lists_swap ms ns (marked (w m) ts)

  read_again : (ms : List ℕ) (ts : List Tally) → read_back w ms (read_back w ms ts) ≡ read_back w ms ts
  read_again [] ts = refl
  read_again (m ∷ ms) ts =
      ap (read_back w ms) (sym (through ms (w m) (marked (w m) ts)) ∙ ap (read_back w ms) (marked_again (w m) ts))
      ∙ read_again ms (marked (w m) ts)

  -- what a position reads, noted twice
  pub noted_again : (ms ns : List ℕ) (ts : List Tally) → read_back w ns (read_back w ms (read_back w ns (read_back w ms ts))) ≡ read_back w ns (read_back w ms ts)
  noted_again ms ns ts =
      ap (read_back w ns) (lists_swap ms ns (read_back w ms ts))
      ∙ read_again ns (read_back w ms (read_back w ms ts))
      ∙ ap (read_back w ns) (read_again ms ts)
