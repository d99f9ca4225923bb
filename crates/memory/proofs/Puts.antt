-- What a memory is once bytes were put into it.
use Rattle.std.proofs.Common.{◌≡◌, ℕ, suc, ◌+◌, ◌-◌, ◌*◌, ◌/◌, ◌%◌, ◌^◌, ◌<◌, ◌≤◌, List, [], ◌∷◌, ◌++◌, length, take, drop, cond, nat_eq, get_or, ◌⊎◌, inl, inr, ⊎_elim, refl, sym, ap, ◌∙◌, subst, arith}
use Rattle.std.proofs.lemmas.List.{take-append-drop}
use Rattle.std.proofs.lemmas.Bool.{cases_eq, ne_eqb, eq-eqb}
use Rattle.cells.specs.Bytes.{after_puts}

-- only an address modulo 2 ^ 32 counts
pub puts_modulo : (m : ℕ → ℕ) (a b : ℕ) (vs : List ℕ) → a % 2 ^ 32 ≡ b % 2 ^ 32 → after_puts m a vs ≡ after_puts m b vs
puts_modulo m a b [] e = refl
puts_modulo m a b (v ∷ vs) e =
    ap (λ k. after_puts (λ c. cond (nat_eq k c) v (m c)) (a + 1) vs) e
    ∙ puts_modulo (λ c. cond (nat_eq (b % 2 ^ 32) c) v (m c)) (a + 1) (b + 1) vs (omega arith)

pub puts_append : (m : ℕ → ℕ) (a : ℕ) (us vs : List ℕ) → after_puts m a (us ++ vs) ≡ after_puts (after_puts m a us) (a + length us) vs
puts_append m a [] vs = ap (λ k. after_puts m k vs) (omega arith)
puts_append m a (u ∷ us) vs =
    puts_append (λ c. cond (nat_eq (a % 2 ^ 32) c) u (m c)) (a + 1) us vs
    ∙ ap (λ k. after_puts (after_puts (λ c. cond (nat_eq (a % 2 ^ 32) c) u (m c)) (a + 1) us) k vs) (omega arith)

-- where the bytes don't wrap: the bytes outside
pub puts_outside : (m : ℕ → ℕ) (a b : ℕ) (vs : List ℕ) → a + length vs ≤ 2 ^ 32 → (b < a) ⊎ (a + length vs ≤ b) → after_puts m a vs b ≡ m b
puts_outside m a b [] fits out = refl
puts_outside m a b (v ∷ vs) fits out =
    let apart : a % 2 ^ 32 ≡ b → ⊥ = λ e. ⊎_elim (λ l. omega arith) (λ l. omega arith) out in
    puts_outside (λ c. cond (nat_eq (a % 2 ^ 32) c) v (m c)) (a + 1) b vs (omega arith) (⊎_elim (λ l. inl (omega arith)) (λ l. inr (omega arith)) out)
    ∙ ap (λ t. cond t v (m b)) (ne_eqb (a % 2 ^ 32) b apart)

-- and those inside
pub puts_inside : (m : ℕ → ℕ) (a b : ℕ) (vs : List ℕ) → a + length vs ≤ 2 ^ 32 → a ≤ b → b < a + length vs → after_puts m a vs b ≡ get_or vs (b - a) 0
puts_inside m a b [] fits low high = absurd (omega arith)
puts_inside m a b (v ∷ vs) fits low high = ⊎_elim first (λ ne. later ne (puts_inside (λ c. cond (nat_eq (a % 2 ^ 32) c) v (m c)) (a + 1) b vs (omega arith) (omega arith) (omega arith))) (cases_eq a b)
  where
    first : a ≡ b → after_puts (λ c. cond (nat_eq (a % 2 ^ 32) c) v (m c)) (a + 1) vs b ≡ get_or (v ∷ vs) (b - a) 0
    first e =
        puts_outside (λ c. cond (nat_eq (a % 2 ^ 32) c) v (m c)) (a + 1) b vs (omega arith) (inl (omega arith))
        ∙ ap (λ t. cond t v (m b)) (eq-eqb (a % 2 ^ 32) b (omega arith))
        ∙ sym (let z : b - a ≡ 0 = omega arith in ap (λ k. get_or (v ∷ vs) k 0) z)

    later : (a ≡ b → ⊥) → after_puts (λ c. cond (nat_eq (a % 2 ^ 32) c) v (m c)) (a + 1) vs b ≡ get_or vs (b - (a + 1)) 0 → after_puts (λ c. cond (nat_eq (a % 2 ^ 32) c) v (m c)) (a + 1) vs b ≡ get_or (v ∷ vs) (b - a) 0
    later ne rest =
        rest ∙ sym (let z : b - a ≡ suc (b - (a + 1)) = omega arith in ap (λ k. get_or (v ∷ vs) k 0) z)

-- the first bytes of the rest were put, the others are left
pub put_more : (m then goal : ℕ → ℕ) (a next n : ℕ) (rest here later : List ℕ) → here ≡ take n rest → later ≡ drop n rest → next ≡ (a + length here) % 2 ^ 32 → then ≡ after_puts m a here
    → after_puts m a rest ≡ goal → after_puts then next later ≡ goal
put_more m then goal a next n rest here later front back is put to_do =
    ap (λ f. after_puts f next later) put
    ∙ puts_modulo (after_puts m a here) next (a + length here) later (omega arith)
    ∙ sym (puts_append m a here later)
    ∙ ap (after_puts m a) (ap (λ xs. xs ++ later) front ∙ ap (λ xs. take n rest ++ xs) back ∙ take-append-drop n rest)
    ∙ to_do

-- what holds of the page of each byte that is left
pub pages_more : (P Q : ℕ → Type 0) (a next n before after : ℕ) → ((p : ℕ) → P p → Q p) → ((k : ℕ) → k < before → P ((a + k) % 2 ^ 32 / 4096)) → next ≡ (a + n) % 2 ^ 32 → before ≡ n + after
    → (k : ℕ) → k < after → Q ((next + k) % 2 ^ 32 / 4096)
pages_more P Q a next n before after weaker all is length k lt =
    let e : (a + (n + k)) % 2 ^ 32 ≡ (next + k) % 2 ^ 32 = omega arith in
    weaker _ (subst P (ap (λ b. b / 4096) e) (all (n + k) (omega arith)))

-- the pages of count bytes from a on, by their numbers
pub pages_all : (P : ℕ → Type 0) (a count pages : ℕ) → a < 2 ^ 32 → a % 4096 + count ≤ pages * 4096 → ((j : ℕ) → j < pages → P ((a / 4096 + j) % 2 ^ 20)) → (k : ℕ) → k < count → P ((a + k) % 2 ^ 32 / 4096)
pages_all P a count pages within enough all k lt =
    let j : ℕ = (a % 4096 + k) / 4096 in
    let e : (a / 4096 + (a % 4096 + k) / 4096) % 2 ^ 20 ≡ (a + k) % 2 ^ 32 / 4096 = omega arith in
    let below : (a % 4096 + k) / 4096 < pages = omega arith in
    subst P e (all ((a % 4096 + k) / 4096) below)
