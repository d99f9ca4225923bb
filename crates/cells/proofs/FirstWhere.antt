-- The least number below a bound that passes.
use Rattle.std.proofs.Common.{◌≡◌, ℕ, ◌<◌, zero, suc, Bool, true, false, refl, sym, ap, ◌∙◌, subst, arith, inl, inr, ⊎_elim, ◌⊎◌, Option, Some, None, true≢false}
use Rattle.cells.specs.Differ.{keep_or, first_where}

keep_or_some : (o : Option ℕ) (b : Bool) (n k : ℕ) → keep_or o b n ≡ Some k → (o ≡ Some k) ⊎ ((o ≡ None) × (b ≡ true) × (n ≡ k))
keep_or_some (Some j) b n k e = inl e
keep_or_some None true n k e = inr (refl, refl, cc)
keep_or_some None false n k e = absurd (cc)

keep_or_none : (o : Option ℕ) (b : Bool) (n : ℕ) → keep_or o b n ≡ None → (o ≡ None) × (b ≡ false)
keep_or_none (Some j) b n e = absurd (cc)
keep_or_none None true n e = absurd (cc)
keep_or_none None false n e = (refl, refl)

below_next : (P : ℕ → Type 0) (n : ℕ) → ((j : ℕ) → j < n → P j) → P n → (j : ℕ) → j < suc n → P j
below_next P n below here j l =
    ⊎_elim (λ (e : j ≡ n). subst P (sym e) here) (λ (h : j < n). below j h) (which j n l)
  where
    which : (j n : ℕ) → j < suc n → (j ≡ n) ⊎ (j < n)
    which j n l = grind arith

pub first_where_none : (p : ℕ → Bool) (n : ℕ) → first_where p n ≡ None → (j : ℕ) → j < n → p j ≡ false
unfolding first_where
first_where_none p zero e j l = absurd (omega arith)
first_where_none p (suc n) e j l =
    let parts = keep_or_none (first_where p n) (p n) n e in
    below_next (λ j. p j ≡ false) n (first_where_none p n parts.0) parts.1 j l

pub first_where_some : (p : ℕ → Bool) (n k : ℕ) → first_where p n ≡ Some k → (p k ≡ true) × (k < n) × ((j : ℕ) → j < k → p j ≡ false)
unfolding first_where
first_where_some p zero k e = absurd (cc)
first_where_some p (suc n) k e =
    ⊎_elim
    (λ (h : first_where p n ≡ Some k). let r = first_where_some p n k h in (r.0, omega arith, r.2))
    (λ (h : (first_where p n ≡ None) × (p n ≡ true) × (n ≡ k)).
    let P : ℕ → Type 0 = λ k. (p k ≡ true) × (k < suc n) × ((j : ℕ) → j < k → p j ≡ false) in
    subst P h.2 (h.1, omega arith, first_where_none p n h.0))
    (keep_or_some (first_where p n) (p n) n k e)

-- so one that is the first is the one found
pub first_where_at : (p : ℕ → Bool) (n k : ℕ) → p k ≡ true → k < n → ((j : ℕ) → j < k → p j ≡ false) → first_where p n ≡ Some k
first_where_at p n k here l before = found_is_k (first_where p n) refl
  where
    order : (j k : ℕ) → (j ≡ k) ⊎ ((j < k) ⊎ (k < j))
    order j k = grind arith

    found_is_k : (o : Option ℕ) → first_where p n ≡ o → o ≡ Some k
    found_is_k None e = absurd (true≢false (sym here ∙ first_where_none p n e k l))
    found_is_k (Some j) e =
        let r = first_where_some p n j e in
        ⊎_elim
        (λ (h : j ≡ k). ap Some h)
        (λ (h : (j < k) ⊎ (k < j)). ⊎_elim (λ (x : j < k). absurd (true≢false (sym r.0 ∙ before j x))) (λ (x : k < j). absurd (true≢false (sym here ∙ r.2 k x))) h)
        (order j k)

pub first_where_none_of : (p : ℕ → Bool) (n : ℕ) → ((j : ℕ) → j < n → p j ≡ false) → first_where p n ≡ None
first_where_none_of p n h = finds_none (first_where p n) refl
  where
    finds_none : (o : Option ℕ) → first_where p n ≡ o → o ≡ None
    finds_none None e = refl
    finds_none (Some k) e = let r = first_where_some p n k e in absurd (true≢false (sym r.0 ∙ h k r.1))
