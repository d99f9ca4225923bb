-- A number that is read is the number that was written, and what was written is read again.
use Rattle.std.proofs.Common.{◌≡◌, ℕ, zero, suc, ◌+◌, ◌^◌, ◌<◌, ◌≤◌, Bool, true, false, cond, not, ◌&&◌, ltb, List, [], ◌∷◌, ◌++◌, length, get_or, take, drop, Result, Ok, Err, refl, sym, ap, subst, ◌∙◌, append_assoc, arith, inl, inr}
use Rattle.std.specs.List.{flat_map}
use Rattle.std.specs.Int.{w32, w64, from_le_bytes, to_le_bytes}
use Rattle.std.proofs.lemmas.Bool.{cases_lt, ltb-false, le-ltb}
use Rattle.std.proofs.lemmas.List.{take-append-drop, length-append, length-take, get_or-drop, get_or-take, get_or_past}
use Rattle.std.proofs.lemmas.List.Concat.{flat_map-cons}
use Rattle.std.proofs.lemmas.Nat.{le_bytes_4, le_bytes_8, from_le_bytes-to_le_bytes_4, from_le_bytes-to_le_bytes_8}
use Rattle.std.proofs.Math.Seq.{take-append_seam, drop-append_seam}
use Rattle.word_format.specs.Reading.{◌>>=◌, with_error, word_or, long_or, entries}

abbrev pub IsBytes : List ℕ → Type 0
IsBytes bytes = (i : ℕ) → get_or bytes i 0 < 256

IsBytes-drop : (n : ℕ) (bytes : List ℕ) → IsBytes bytes → IsBytes (drop n bytes)
IsBytes-drop n bytes h i = rw get_or-drop (h (n + i))

IsBytes-take : (n : ℕ) (bytes : List ℕ) → IsBytes bytes → IsBytes (take n bytes)
IsBytes-take n bytes h i =
    elim (cases_lt i n) [
      | inl lt ↦ rw (get_or-take n bytes i 0 lt) (h i)
      | inr le ↦ rw (get_or_past (take n bytes) i 0 (omega (arith, length-take n bytes))) (omega arith)
    ]

-- the value of a step that did not fail
pub bind_ok : {A B E : Type 0} (r : Result A E) (f : A → Result B E) (y : B) → (r >>= f) ≡ Ok y → (x : A) × (r ≡ Ok x) × (f x ≡ Ok y)
bind_ok (Ok x) f y e = (x, refl, e)
bind_ok (Err d) f y e = absurd cc

-- a test that did not fail
pub passed : {A E : Type 0} (b : Bool) (d : E) (r : Result A E) (y : A) → cond b (Err d) r ≡ Ok y → (b ≡ false) × (r ≡ Ok y)
passed true d r y e = absurd cc
passed false d r y e = (refl, e)

pub not_false : (b : Bool) → not b ≡ false → b ≡ true
not_false true e = refl
not_false false e = absurd cc

pub both : (a b : Bool) → (a && b) ≡ true → (a ≡ true) × (b ≡ true)
both true b e = (refl, e)
both false b e = absurd cc

abbrev done : {A E : Type 0} → A → Result A E
done x = Ok x

pub ok_is : {A E : Type 0} (x y : A) → done {E = E} x ≡ done y → x ≡ y
ok_is x y e = cc

-- with another error for each, what was read stays
pub same_read : {A E F : Type 0} (error : E → F) (r : Result A E) (x : A) → with_error error r ≡ Ok x → r ≡ Ok x
same_read error (Ok y) x e = ap (λ (z : _). Ok z) (ok_is y x e)
same_read error (Err d) x e = absurd cc

-- what was taken from the front of some bytes, and what is left of them
pub record Takes (bytes text rest : List ℕ) : Type 0 where
  pub parts : bytes ≡ text ++ rest
  pub rest_fits : IsBytes rest

pub Takes-then : (a x b y c : List ℕ) → Takes a x b → Takes b y c → Takes a (x ++ y) c
Takes-then a x b y c p q = record { parts = p.parts ∙ ap (λ (t : List ℕ). x ++ t) q.parts ∙ sym (append_assoc x y c); rest_fits = q.rest_fits }

-- ---- numbers

-- numbers below a bound, which are written as so many bytes
module _ {E : Type 0} (short : E) (size bound : ℕ) (write : ℕ → List ℕ) (read : List ℕ → ℕ)
    (writes : (bs : List ℕ) → length bs ≡ size → IsBytes bs → write (read bs) ≡ bs) (within : (bs : List ℕ) → IsBytes bs → read bs < bound)
    (reads : (n : ℕ) → n < bound → read (write n) ≡ n) (sized : (n : ℕ) → length (write n) ≡ size) where
  abbrev next : List ℕ → Result (ℕ × List ℕ) E
  next bytes = cond (ltb (length bytes) size) (Err short) (Ok (read (take size bytes), drop size bytes))

  number_takes : (bytes : List ℕ) (x : ℕ × List ℕ) → IsBytes bytes → next bytes ≡ Ok x → Takes bytes (write x.0) x.1 × (x.0 < bound)
  number_takes bytes x fits e =
      let p = passed (ltb (length bytes) size) short (Ok (read (take size bytes), drop size bytes)) x e in
      let long : size ≤ length bytes = ltb-false _ _ p.0 in
      let front_fits = IsBytes-take size bytes fits in
      let front : write (read (take size bytes)) ≡ take size bytes = writes (take size bytes) (omega (arith, length-take size bytes)) front_fits in
      let made : Takes bytes (write (read (take size bytes))) (drop size bytes) = record { parts = sym (take-append-drop size bytes) ∙ ap (λ (t : List ℕ). t ++ drop size bytes) (sym front); rest_fits = IsBytes-drop size bytes fits } in
      subst (λ (y : ℕ × List ℕ). Takes bytes (write y.0) y.1 × (y.0 < bound)) (ok_is (read (take size bytes), drop size bytes) x p.1) (made, within (take size bytes) front_fits)

  number_again : (n : ℕ) (rest : List ℕ) → n < bound → next (write n ++ rest) ≡ Ok (n, rest)
  number_again n rest lt =
      let long : ltb (length (write n ++ rest)) size ≡ false = le-ltb _ _ (omega (arith, length-append (write n) rest, sized n)) in
      let front : take size (write n ++ rest) ≡ write n = ap (λ (k : ℕ). take k (write n ++ rest)) (sym (sized n)) ∙ take-append_seam (write n) rest in
      let back : drop size (write n ++ rest) ≡ rest = ap (λ (k : ℕ). drop k (write n ++ rest)) (sym (sized n)) ∙ drop-append_seam (write n) rest in
      let made : next (write n ++ rest) ≡ Ok (read (write n), rest) = rw (long, front, back) refl in
      made ∙ ap (λ (m : ℕ). Ok (m, rest)) (reads n lt)

long_within : (bs : List ℕ) → IsBytes bs → from_le_bytes w64 bs < 2 ^ 64
long_within bs fits = omega (arith, fits 0, fits 1, fits 2, fits 3, fits 4, fits 5, fits 6, fits 7)

module _ {E : Type 0} (short : E) where
  pub word_takes : (bytes : List ℕ) (x : ℕ × List ℕ) → IsBytes bytes → word_or short bytes ≡ Ok x → Takes bytes (to_le_bytes w32 x.0) x.1 × (x.0 < 2 ^ 32)
  word_takes = number_takes short 4 (2 ^ 32) (to_le_bytes w32) (from_le_bytes w32) (λ bs is fits. le_bytes_4 bs _ is fits refl) (λ bs fits. omega (arith, fits 0, fits 1, fits 2, fits 3)) from_le_bytes-to_le_bytes_4 (λ n. refl)

  pub word_again : (n : ℕ) (rest : List ℕ) → n < 2 ^ 32 → word_or short (to_le_bytes w32 n ++ rest) ≡ Ok (n, rest)
  word_again = number_again short 4 (2 ^ 32) (to_le_bytes w32) (from_le_bytes w32) (λ bs is fits. le_bytes_4 bs _ is fits refl) (λ bs fits. omega (arith, fits 0, fits 1, fits 2, fits 3)) from_le_bytes-to_le_bytes_4 (λ n. refl)

  pub long_takes : (bytes : List ℕ) (x : ℕ × List ℕ) → IsBytes bytes → long_or short bytes ≡ Ok x → Takes bytes (to_le_bytes w64 x.0) x.1 × (x.0 < 2 ^ 64)
  long_takes = number_takes short 8 (2 ^ 64) (to_le_bytes w64) (from_le_bytes w64) (λ bs is fits. le_bytes_8 bs _ is fits refl) long_within from_le_bytes-to_le_bytes_8 (λ n. refl)

  pub long_again : (n : ℕ) (rest : List ℕ) → n < 2 ^ 64 → long_or short (to_le_bytes w64 n ++ rest) ≡ Ok (n, rest)
  long_again = number_again short 8 (2 ^ 64) (to_le_bytes w64) (from_le_bytes w64) (λ bs is fits. le_bytes_8 bs _ is fits refl) long_within from_le_bytes-to_le_bytes_8 (λ n. refl)

  -- reading a number that was written, and going on
  pub word_step : {A : Type 0} (n : ℕ) (rest : List ℕ) (f : ℕ × List ℕ → Result A E) → n < 2 ^ 32 → (word_or short (to_le_bytes w32 n ++ rest) >>= f) ≡ f (n, rest)
  word_step n rest f lt = ap (λ (r : Result (ℕ × List ℕ) E). r >>= f) (word_again n rest lt)

  pub long_step : {A : Type 0} (n : ℕ) (rest : List ℕ) (f : ℕ × List ℕ → Result A E) → n < 2 ^ 64 → (long_or short (to_le_bytes w64 n ++ rest) >>= f) ≡ f (n, rest)
  long_step n rest f lt = ap (λ (r : Result (ℕ × List ℕ) E). r >>= f) (long_again n rest lt)

-- ---- entries

-- as many entries are read as are counted
pub entries_length : {A S E : Type 0} (read : ℕ → S → List ℕ → Result (A × List ℕ) E) (see : S → A → S) (n i : ℕ) (seen : S) (bytes : List ℕ) (x : List A × List ℕ) → entries read see n i seen bytes ≡ Ok x → length x.0 ≡ n
unfolding entries
entries_length read see zero i seen bytes x e = sym (ap (λ (y : List _ × List ℕ). length y.0) (ok_is ([], bytes) x e))
entries_length read see (suc n) i seen bytes x e =
    let a = bind_ok (read i seen bytes) (λ first. entries read see n (i + 1) (see seen first.0) first.1 >>= λ others. Ok (first.0 ∷ others.0, others.1)) x e in
    let b = bind_ok (entries read see n (i + 1) (see seen a.0.0) a.0.1) (λ others. Ok (a.0.0 ∷ others.0, others.1)) x a.2 in
    sym (ap (λ (y : List _ × List ℕ). length y.0) (ok_is (a.0.0 ∷ b.0.0, b.0.1) x b.2)) ∙ ap suc (entries_length read see n (i + 1) (see seen a.0.0) a.0.1 b.0 b.1)

module _ {A S E : Type 0} (read : ℕ → S → List ℕ → Result (A × List ℕ) E) (see : S → A → S) (spell : A → List ℕ) (Fits : S → A → Type 0) where
  -- each entry fits beside what was seen of those before it
  abbrev pub AllFrom : S → List A → Type 0
  AllFrom seen [] = Unit {0}
  AllFrom seen (x ∷ xs) = Fits seen x × AllFrom (see seen x) xs

  pub entries_take : ((i : ℕ) (seen : S) (bytes : List ℕ) (x : A × List ℕ) → IsBytes bytes → read i seen bytes ≡ Ok x → Takes bytes (spell x.0) x.1 × Fits seen x.0) →
      (n i : ℕ) (seen : S) (bytes : List ℕ) (x : List A × List ℕ) → IsBytes bytes → entries read see n i seen bytes ≡ Ok x → Takes bytes (flat_map spell x.0) x.1 × (length x.0 ≡ n) × AllFrom seen x.0
  unfolding entries
  entries_take law zero i seen bytes x fits e =
      subst (λ (y : List A × List ℕ). Takes bytes (flat_map spell y.0) y.1 × (length y.0 ≡ 0) × AllFrom seen y.0) (ok_is ([], bytes) x e) (record { parts = refl; rest_fits = fits }, refl, tt)
  entries_take law (suc n) i seen bytes x fits e =
      let a = bind_ok (read i seen bytes) (λ first. entries read see n (i + 1) (see seen first.0) first.1 >>= λ others. Ok (first.0 ∷ others.0, others.1)) x e in
      let b = bind_ok (entries read see n (i + 1) (see seen a.0.0) a.0.1) (λ others. Ok (a.0.0 ∷ others.0, others.1)) x a.2 in
      let first = law i seen bytes a.0 fits a.1 in
      let second = entries_take law n (i + 1) (see seen a.0.0) a.0.1 b.0 first.0.rest_fits b.1 in
      let all = Takes-then bytes (spell a.0.0) a.0.1 (flat_map spell b.0.0) b.0.1 first.0 second.0 in
      let made : List A × List ℕ = (a.0.0 ∷ b.0.0, b.0.1) in
      subst (λ (y : List A × List ℕ). Takes bytes (flat_map spell y.0) y.1 × (length y.0 ≡ suc n) × AllFrom seen y.0) (ok_is made x b.2) (rw flat_map-cons all, ap suc second.1, (first.1, second.2))

  pub entries_again : ((i : ℕ) (seen : S) (x : A) (rest : List ℕ) → Fits seen x → read i seen (spell x ++ rest) ≡ Ok (x, rest)) →
      (xs : List A) (i : ℕ) (seen : S) (rest : List ℕ) → AllFrom seen xs → entries read see (length xs) i seen (flat_map spell xs ++ rest) ≡ Ok (xs, rest)
  unfolding entries
  entries_again law [] i seen rest fits = refl
  entries_again law (x ∷ xs) i seen rest fits =
      let regrouped : flat_map spell (x ∷ xs) ++ rest ≡ spell x ++ (flat_map spell xs ++ rest) = ap (λ (t : List ℕ). t ++ rest) (flat_map-cons spell x xs) ∙ append_assoc (spell x) (flat_map spell xs) rest in
      ap (entries read see (suc (length xs)) i seen) regrouped ∙ rw (law i seen x (flat_map spell xs ++ rest) fits.0, entries_again law xs (i + 1) (see seen x) rest fits.1) refl
