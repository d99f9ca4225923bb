-- Which addresses are among those of a span.
use Rattle.std.proofs.Common.{◌≡◌, ℕ, zero, suc, ◌+◌, ◌-◌, ◌%◌, ◌^◌, ◌<◌, ◌≤◌, Bool, true, false, ◌||◌, ◌∷◌, refl, sym, ap, ◌∙◌, subst, ⊎_elim, true≢false, arith}
use Rattle.std.proofs.lemmas.Bool.{eqb-true, eq-eqb, or_cases, or_left, or_right}
use Rattle.std.specs.Prelude.{nat_eq}
use Rattle.fitting.specs.Claims.{among}
use Rattle.profile_laws.specs.Tally.{places}
use Rattle.access_trace.specs.Shadows.{word_of}

-- bytes of one word
in_word : (word count from a : ℕ) → word % 4 ≡ 0 → word ≤ from → from + count ≤ word + 4 → word + 4 ≤ 2 ^ 32 → among (places count from) a ≡ true → word_of a ≡ word
unfolding places
in_word word zero from a aligned low high small h = absurd (true≢false (sym h))
in_word word (suc count) from a aligned low high small h = ⊎_elim
    (λ (here : nat_eq (from % 2 ^ 32) a ≡ true). let e : from % 2 ^ 32 ≡ a = eqb-true (from % 2 ^ 32) a here in omega arith)
    (λ (later : among (places count (from + 1)) a ≡ true). in_word word count (from + 1) a aligned (omega arith) (omega arith) small later)
    (or_cases (nat_eq (from % 2 ^ 32) a) (among (places count (from + 1)) a) h)

pub in_one_word : (count from a : ℕ) → from < 2 ^ 32 → count ≤ 4 - from % 4 → among (places count from) a ≡ true → word_of a ≡ word_of from
in_one_word count from a small few h = in_word (word_of from) count from a (omega arith) (omega arith) (omega arith) (omega arith) h

-- only an address modulo 2 ^ 32 counts
pub places_modulo : (count a b : ℕ) → a % 2 ^ 32 ≡ b % 2 ^ 32 → places count a ≡ places count b
unfolding places
places_modulo zero a b e = refl
places_modulo (suc count) a b e = ap (λ p. p ∷ places count (a + 1)) e ∙ ap (λ ps. b % 2 ^ 32 ∷ ps) (places_modulo count (a + 1) (b + 1) (omega arith))

either : (x y z : Bool) → (x || (y || z)) ≡ ((x || y) || z)
either true y z = refl
either false y z = refl

-- the first addresses, or the others
split : (first count from a : ℕ) → among (places (first + count) from) a ≡ (among (places first from) a || among (places count (from + first)) a)
unfolding places
split zero count from a =
    ap (λ n. among (places n from) a) (let e : 0 + count ≡ count = omega arith in e)
    ∙ ap (λ b. among (places count b) a) (let e : from ≡ from + 0 = omega arith in e)
split (suc first) count from a =
    ap (λ n. among (places n from) a) (let e : suc first + count ≡ suc (first + count) = omega arith in e)
    ∙ ap (λ b. nat_eq (from % 2 ^ 32) a || b) (split first count (from + 1) a)
    ∙ ap (λ b. nat_eq (from % 2 ^ 32) a || (among (places first (from + 1)) a || among (places count b) a)) (let e : from + 1 + first ≡ from + suc first = omega arith in e)
    ∙ either (nat_eq (from % 2 ^ 32) a) (among (places first (from + 1)) a) (among (places count (from + suc first)) a)

pub first_or_others : (first count from next a : ℕ) → first ≤ count → next ≡ (from + first) % 2 ^ 32 → among (places count from) a ≡ (among (places first from) a || among (places (count - first) next) a)
first_or_others first count from next a le is =
    ap (λ n. among (places n from) a) (let e : count ≡ first + (count - first) = omega arith in e)
    ∙ split first (count - first) from a
    ∙ ap (λ ps. among (places first from) a || among ps a) (places_modulo (count - first) (from + first) next (omega arith))

there : (k count from : ℕ) → k < count → from + count ≤ 2 ^ 32 → among (places count from) (from + k) ≡ true
unfolding places
there k zero from lt small = absurd (omega arith)
there zero (suc count) from lt small =
    or_left (nat_eq (from % 2 ^ 32) (from + 0)) (among (places count (from + 1)) (from + 0)) (eq-eqb (from % 2 ^ 32) (from + 0) (omega arith))
there (suc k) (suc count) from lt small =
    or_right (nat_eq (from % 2 ^ 32) (from + suc k)) (among (places count (from + 1)) (from + suc k))
    (subst (λ b. among (places count (from + 1)) b ≡ true) (let e : from + 1 + k ≡ from + suc k = omega arith in e) (there k count (from + 1) (omega arith) (omega arith)))

same_tests : (b c : Bool) → (b ≡ true → c ≡ true) → (c ≡ true → b ≡ true) → b ≡ c
same_tests true true f g = refl
same_tests true false f g = sym (f refl)
same_tests false true f g = g refl
same_tests false false f g = refl

-- one byte
pub one_place : (from a : ℕ) → from < 2 ^ 32 → among (places 1 from) a ≡ nat_eq a from
unfolding places
one_place from a small =
    same_tests (among (places 1 from) a) (nat_eq a from)
    (λ h. ⊎_elim
    (λ (e : nat_eq (from % 2 ^ 32) a ≡ true). let same : from % 2 ^ 32 ≡ a = eqb-true (from % 2 ^ 32) a e in eq-eqb a from (omega arith))
    (λ (no : among (places 0 (from + 1)) a ≡ true). absurd (true≢false (sym no)))
    (or_cases (nat_eq (from % 2 ^ 32) a) (among (places 0 (from + 1)) a) h))
    (λ h. let same : a ≡ from = eqb-true a from h in or_left (nat_eq (from % 2 ^ 32) a) (among (places 0 (from + 1)) a) (eq-eqb (from % 2 ^ 32) a (omega arith)))

-- four bytes of a word
pub four_places : (word a : ℕ) → word < 2 ^ 32 → word % 4 ≡ 0 → among (places 4 word) a ≡ nat_eq (word_of a) word
four_places word a small aligned =
    same_tests (among (places 4 word) a) (nat_eq (word_of a) word)
    (λ h. eq-eqb (word_of a) word (in_word word 4 word a aligned (omega arith) (omega arith) (omega arith) h))
    (λ h. let same : word_of a ≡ word = eqb-true (word_of a) word h in
    subst (λ b. among (places 4 word) b ≡ true) (let e : word + a % 4 ≡ a = omega arith in e) (there (a % 4) 4 word (omega arith) (omega arith)))

-- each address of a span is so many bytes behind the first
pub behind : (count from a : ℕ) → among (places count from) a ≡ true → (k : ℕ) × (k < count) × (a ≡ (from + k) % 2 ^ 32)
unfolding places
behind zero from a h = absurd (true≢false (sym h))
behind (suc count) from a h = ⊎_elim
    (λ (e : nat_eq (from % 2 ^ 32) a ≡ true). let same : from % 2 ^ 32 ≡ a = eqb-true (from % 2 ^ 32) a e in (0, omega arith, omega arith))
    (λ (later : among (places count (from + 1)) a ≡ true). let rest = behind count (from + 1) a later in next rest.0 rest.1 rest.2)
    (or_cases (nat_eq (from % 2 ^ 32) a) (among (places count (from + 1)) a) h)
  where
    next : (k : ℕ) → k < count → a ≡ (from + 1 + k) % 2 ^ 32 → (j : ℕ) × (j < suc count) × (a ≡ (from + j) % 2 ^ 32)
    next k lt is = (suc k, omega arith, omega arith)

pub among_them : (k count from : ℕ) → k < count → among (places count from) ((from + k) % 2 ^ 32) ≡ true
unfolding places
among_them k zero from lt = absurd (omega arith)
among_them zero (suc count) from lt =
    or_left (nat_eq (from % 2 ^ 32) ((from + 0) % 2 ^ 32)) (among (places count (from + 1)) ((from + 0) % 2 ^ 32)) (eq-eqb (from % 2 ^ 32) ((from + 0) % 2 ^ 32) (omega arith))
among_them (suc k) (suc count) from lt =
    or_right (nat_eq (from % 2 ^ 32) ((from + suc k) % 2 ^ 32)) (among (places count (from + 1)) ((from + suc k) % 2 ^ 32))
    (subst (λ b. among (places count (from + 1)) b ≡ true) (let e : (from + 1 + k) % 2 ^ 32 ≡ (from + suc k) % 2 ^ 32 = omega arith in e) (among_them k count (from + 1) (omega arith)))
