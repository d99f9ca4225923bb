-- Reading entries one after the other, as a loop does.
use Rattle.std.proofs.Common.{◌≡◌, ℕ, suc, ◌-◌, ◌+◌, ◌≤◌, ◌<◌, ◌⊎◌, inl, inr, List, [], ◌∷◌, ◌++◌, Result, Ok, Err, refl, sym, ap, ◌∙◌, append_assoc, arith}
use Rattle.std.proofs.lemmas.List.{append-nil}
use Rattle.word_format.specs.Reading.{◌>>=◌, entries}

-- what was read before, and what is still read
abbrev pub with_front : {A E : Type 0} → List A → Result (List A × List ℕ) E → Result (List A × List ℕ) E
with_front front rest = rest >>= λ x. Ok (front ++ x.0, x.1)

regroup : {A E : Type 0} (front : List A) (first : A) (rest : Result (List A × List ℕ) E) → with_front front (rest >>= λ x. Ok (first ∷ x.0, x.1)) ≡ with_front (front ++ first ∷ []) rest
regroup front first (Ok x) = ap (λ (xs : List _). Ok (xs, x.1)) (simp append_assoc)
regroup front first (Err e) = refl

module _ {A S E : Type 0} (read : ℕ → S → List ℕ → Result (A × List ℕ) E) (see : S → A → S) (front : List A) (count i : ℕ) (seen : S) (bytes : List ℕ) (whole : Result (List A × List ℕ) E) (so_far : with_front front (entries read see (count - i) i seen bytes) ≡ whole) where
  -- an entry more
  pub goes_on : (first : A) (after : List ℕ) → i < count → read i seen bytes ≡ Ok (first, after) → with_front (front ++ first ∷ []) (entries read see (count - (i + 1)) (i + 1) (see seen first) after) ≡ whole
  unfolding entries
  goes_on first after lt is =
      let k : count - i ≡ suc (count - (i + 1)) = omega arith in
      let one : with_front front (entries read see (count - i) i seen bytes) ≡ with_front (front ++ first ∷ []) (entries read see (count - (i + 1)) (i + 1) (see seen first) after) = rw (k, is) (regroup front first (entries read see (count - (i + 1)) (i + 1) (see seen first) after)) in
      sym one ∙ so_far

  -- an entry that fails
  pub fails : {memory : E} (e : E) → i < count → (e ≡ memory) ⊎ (read i seen bytes ≡ Err e) → (e ≡ memory) ⊎ (whole ≡ Err e)
  unfolding entries
  fails e lt (inl memory) = inl memory
  fails e lt (inr is) =
      let k : count - i ≡ suc (count - (i + 1)) = omega arith in
      let one : with_front front (entries read see (count - i) i seen bytes) ≡ Err e = rw (k, is) refl in
      inr (sym so_far ∙ one)

  -- no entry is left
  pub is_done : count ≤ i → whole ≡ Ok (front, bytes)
  unfolding entries
  is_done le =
      let k : count - i ≡ 0 = omega arith in
      let one : with_front front (entries read see (count - i) i seen bytes) ≡ Ok (front, bytes) = rw k (ap (λ (xs : List A). Ok (xs, bytes)) (append-nil front)) in
      sym so_far ∙ one
