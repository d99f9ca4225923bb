-- A set puts a number where a sorted list has it.
use Rattle.std.proofs.Common.{◌≡◌, ℕ, ◌+◌, ◌<◌, ◌≤◌, ◌≢◌, ◌==◌, ◌||◌, not, Bool, true, false, cond, List, [], ◌∷◌, length, refl, ap, ◌∙◌, sym, arith}
use Rattle.std.specs.Prelude.{nat_lt}
use Rattle.std.specs.List.{list_any}
use Rattle.std.specs.Ordering.{nat_cmp, match_ordering, is_eq}
use Rattle.std.specs.declared.cmp.Ordering.TheVariants.{Less, Equal, Greater}
use Rattle.std.proofs.lemmas.Bool.{lt-ltb, le-ltb, eq-eqb, ne_eqb, ltb-true, ltb-false, eqb-true, eqb-false}
use Rattle.std.specs.BTreeSet.{insert_key}
use Rattle.std.specs.BTreeMap.{is_at}
use Rattle.word_format.proofs.Rising.{Rises}
use Rattle.profile_laws.specs.Tally.{placed}

pub set_placed : (n : ℕ) (ms : List ℕ) → insert_key nat_cmp ms n ≡ placed n ms
set_placed n [] = refl
set_placed n (m ∷ ms) = below (nat_lt n m) refl (set_placed n ms)
  where
    L : Bool → Bool → List ℕ
    L b c = match_ordering (cond b Less (cond c Equal Greater)) (n ∷ m ∷ ms) (m ∷ ms) (m ∷ insert_key nat_cmp ms n)

    R : Bool → Bool → List ℕ
    R b c = cond b (m ∷ placed n ms) (cond c (m ∷ ms) (n ∷ m ∷ ms))

    equal : (c : Bool) → (n == m) ≡ c → m ≤ n → insert_key nat_cmp ms n ≡ placed n ms → L false (n == m) ≡ R (nat_lt m n) (m == n)
    equal true e le rest =
        let same : n ≡ m = eqb-true n m e in
        ap (L false) e ∙ sym (ap (λ b. R b (m == n)) (le-ltb m n (omega arith)) ∙ ap (R false) (eq-eqb m n (sym same)))
    equal false e le rest =
        let other : n ≢ m = eqb-false n m e in
        ap (L false) e ∙ ap (λ xs. m ∷ xs) rest ∙ sym (ap (λ b. R b (m == n)) (lt-ltb m n (omega arith)))

    below : (b : Bool) → nat_lt n m ≡ b → insert_key nat_cmp ms n ≡ placed n ms → L (nat_lt n m) (n == m) ≡ R (nat_lt m n) (m == n)
    below true e rest =
        let lt = ltb-true n m e in
        ap (λ b. L b (n == m)) e ∙ sym (ap (λ b. R b (m == n)) (le-ltb m n (omega arith)) ∙ ap (R false) (ne_eqb m n (λ x. omega arith)))
    below false e rest = ap (λ b. L b (n == m)) e ∙ equal (n == m) refl (ltb-false n m e) rest

-- no set has a number that is below all of its own
none_above : (n due : ℕ) (ms : List ℕ) → n < due → Rises due ms → list_any (is_at (nat_cmp n)) ms ≡ false
none_above n due [] lt up = refl
none_above n due (m ∷ ms) lt up =
    ap (λ b. is_eq (cond b Less (cond (n == m) Equal Greater)) || list_any (is_at (nat_cmp n)) ms) (lt-ltb n m (omega (arith, up.0)))
    ∙ none_above n (m + 1) ms (omega (arith, up.0)) up.1

-- a number that is put adds one, unless it is there
pub set_adds : (n due : ℕ) (ms : List ℕ) → Rises due ms → length (placed n ms) ≡ length ms + cond (not (list_any (is_at (nat_cmp n)) ms)) 1 0
set_adds n due [] up = refl
set_adds n due (m ∷ ms) up = below (set_adds n (m + 1) ms up.1) (nat_lt n m) refl
  where
    L : Bool → Bool → ℕ
    L b c = length (cond b (m ∷ placed n ms) (cond c (m ∷ ms) (n ∷ m ∷ ms)))

    R : Bool → Bool → ℕ
    R b c = length (m ∷ ms) + cond (not (is_eq (cond b Less (cond c Equal Greater)) || list_any (is_at (nat_cmp n)) ms)) 1 0

    Adds : Type 0
    Adds = length (placed n ms) ≡ length ms + cond (not (list_any (is_at (nat_cmp n)) ms)) 1 0

    equal : Adds → (c : Bool) → (n == m) ≡ c → m ≤ n → L (nat_lt m n) (m == n) ≡ R false (n == m)
    equal rest true e le =
        let same : n ≡ m = eqb-true n m e in
        ap (λ b. L b (m == n)) (le-ltb m n (omega arith)) ∙ ap (L false) (eq-eqb m n (sym same)) ∙ (let e : length (m ∷ ms) ≡ length (m ∷ ms) + 0 = omega arith in e) ∙ sym (ap (R false) e)
    equal rest false e le =
        let other : n ≢ m = eqb-false n m e in
        ap (λ b. L b (m == n)) (lt-ltb m n (omega arith)) ∙ (let e : L true (m == n) ≡ R false false = omega (arith, rest) in e) ∙ sym (ap (R false) e)

    below : Adds → (b : Bool) → nat_lt n m ≡ b → L (nat_lt m n) (m == n) ≡ R (nat_lt n m) (n == m)
    below rest true e =
        let lt = ltb-true n m e in
        ap (λ b. L b (m == n)) (le-ltb m n (omega arith)) ∙ ap (L false) (ne_eqb m n (λ x. omega arith))
        ∙ (let e : L false false ≡ length (m ∷ ms) + 1 = omega arith in e)
        ∙ sym (ap (λ b. R b (n == m)) e ∙ ap (λ x. length (m ∷ ms) + cond (not x) 1 0) (none_above n (m + 1) ms (omega arith) up.1))
    below rest false e = equal rest (n == m) refl (ltb-false n m e) ∙ sym (ap (λ b. R b (n == m)) e)
