-- What a directory gives once a table is added or a place is set.
use Rattle.std.proofs.Common.{◌≡◌, ℕ, zero, suc, ◌/◌, ◌%◌, ◌<◌, ◌==◌, ◌≢◌, if◌then◌else◌, List, [], ◌∷◌, ◌++◌, length, cond, true, false, Option, Some, None, option_map, ◌⊎◌, inl, inr, ⊎_elim, get_or, set, replicate, slice_index, refl, sym, ap, ◌∙◌, subst, arith}
use Rattle.std.specs.List.{slice_get}
use Rattle.std.proofs.lemmas.List.{get_or-set_same, get_or-set_other}
use Rattle.std.proofs.lemmas.Bool.{cases_eq, ne_eqb, eq-eqb}
use Rattle.std.proofs.lemmas.Option.{slice_get-get_or, same_Some}
use Rattle.memory.specs.declared.directory.Table.{Table}
use Rattle.memory.specs.Pages.{entry}

-- what stands at an index once y stands at the end too
pub pushed_at : {X : Type 0} (xs : List X) (y : X) (i : ℕ) → (slice_get (xs ++ y ∷ []) i ≡ slice_get xs i) ⊎ ((i ≡ length xs) × (slice_get (xs ++ y ∷ []) i ≡ Some y) × (slice_get xs i ≡ None))
pushed_at [] y zero = inr (refl, refl, refl)
pushed_at [] y (suc i) = inl refl
pushed_at (x ∷ xs) y zero = inl refl
pushed_at (x ∷ xs) y (suc i) = ⊎_elim (λ e. inl e) (λ w. inr (ap suc w.0, w.1, w.2)) (pushed_at xs y i)

pub pushed_last : {X : Type 0} (xs : List X) (y : X) → slice_get (xs ++ y ∷ []) (length xs) ≡ Some y
pushed_last [] y = refl
pushed_last (x ∷ xs) y = pushed_last xs y

-- what stands at an index once y stands at k
pub put_same : {X : Type 0} (xs : List X) (k : ℕ) (x y : X) → slice_get xs k ≡ Some x → slice_get (set xs k y) k ≡ Some y
put_same [] k x y e = cc
put_same (z ∷ xs) zero x y e = refl
put_same (z ∷ xs) (suc k) x y e = put_same xs k x y e

pub put_other : {X : Type 0} (xs : List X) (k i : ℕ) (y : X) → i ≢ k → slice_get (set xs k y) i ≡ slice_get xs i
put_other [] k i y ne = refl
put_other (z ∷ xs) zero zero y ne = absurd (ne refl)
put_other (z ∷ xs) zero (suc i) y ne = refl
put_other (z ∷ xs) (suc k) zero y ne = refl
put_other (z ∷ xs) (suc k) (suc i) y ne = put_other xs k i y (λ e. ne (ap suc e))

-- the part of a record in an option
pub part_of : {X Y : Type 0} (f : X → Y) (o : Option X) (y : Y) → option_map f o ≡ Some y → (x : X) × (o ≡ Some x) × (f x ≡ y)
part_of f None y e = cc
part_of f (Some x) y e = (x, refl, cc)

pub zero_at : (n i : ℕ) → ◌≡◌ {A = ℕ} (get_or (replicate n 0) i 0) 0
zero_at zero i = refl
zero_at (suc n) zero = refl
zero_at (suc n) (suc i) = zero_at n i

abbrev zeros : ℕ → Table
zeros u = record { upper = u; places = replicate 1024 0 }

zeros_at : (u v k : ℕ) → entry (Some (zeros u)) v k ≡ 0
zeros_at u v k = elim (u == v) as (λ b. ◌≡◌ {A = ℕ} (cond b (slice_index (replicate 1024 0) k) 0) 0) [ true ↦ zero_at 1024 k | false ↦ refl ]

-- a table of zeros with digit u changes no place
pub table_made : (top : List ℕ) (ts : List Table) (u v k : ℕ) → u < length top → ((j : ℕ) → entry (slice_get ts (slice_index top u)) u j ≡ 0)
    → entry (slice_get (ts ++ zeros u ∷ []) (slice_index (set top u (length ts)) v)) v k ≡ entry (slice_get ts (slice_index top v)) v k
table_made top ts u v k within none = ⊎_elim same other (cases_eq v u)
  where
    same : v ≡ u → entry (slice_get (ts ++ zeros u ∷ []) (slice_index (set top u (length ts)) v)) v k ≡ entry (slice_get ts (slice_index top v)) v k
    same e =
        let P : ℕ → Type 0 = λ w. entry (slice_get (ts ++ zeros u ∷ []) (slice_index (set top u (length ts)) w)) w k ≡ entry (slice_get ts (slice_index top w)) w k in
        subst P (sym e)
        (ap (λ i. entry (slice_get (ts ++ zeros u ∷ []) i) u k) (get_or-set_same top u (length ts) 0 within)
        ∙ ap (λ o. entry o u k) (pushed_last ts (zeros u))
        ∙ zeros_at u u k
        ∙ sym (none k))

    other : (v ≡ u → ⊥) → entry (slice_get (ts ++ zeros u ∷ []) (slice_index (set top u (length ts)) v)) v k ≡ entry (slice_get ts (slice_index top v)) v k
    other ne =
        ap (λ i. entry (slice_get (ts ++ zeros u ∷ []) i) v k) (get_or-set_other top u v (length ts) 0 ne)
        ∙ ⊎_elim (λ e. ap (λ o. entry o v k) e) (λ w. ap (λ o. entry o v k) w.1 ∙ zeros_at u v k ∙ sym (ap (λ o. entry o v k) w.2)) (pushed_at ts (zeros u) (slice_index top v))

abbrev with_place : Table → ℕ → ℕ → Table
with_place t k p = record { upper = t.upper; places = set t.places k p }

own_entry : (t : Table) (u k : ℕ) → t.upper ≡ u → entry (Some t) u k ≡ slice_index t.places k
own_entry t u k e = ap (λ b. cond b (slice_index t.places k) 0) (eq-eqb t.upper u e)

not_own : (t : Table) (u k : ℕ) → (t.upper ≡ u → ⊥) → entry (Some t) u k ≡ 0
not_own t u k ne = ap (λ b. cond b (slice_index t.places k) 0) (ne_eqb t.upper u ne)

-- in one table, a place that is set
pub entry_set : (t : Table) (n m p : ℕ) → t.upper ≡ m / 1024 → m % 1024 < length t.places → entry (Some (with_place t (m % 1024) p)) (n / 1024) (n % 1024) ≡ (if n == m then p else entry (Some t) (n / 1024) (n % 1024))
entry_set t n m p own within = ⊎_elim same other (cases_eq n m)
  where
    same : n ≡ m → entry (Some (with_place t (m % 1024) p)) (n / 1024) (n % 1024) ≡ (if n == m then p else entry (Some t) (n / 1024) (n % 1024))
    same e =
        let P : ℕ → Type 0 = λ n. entry (Some (with_place t (m % 1024) p)) (n / 1024) (n % 1024) ≡ p in
        subst P (sym e) (own_entry (with_place t (m % 1024) p) (m / 1024) (m % 1024) own ∙ get_or-set_same t.places (m % 1024) p 0 within)
        ∙ sym (ap (λ b. cond b p (entry (Some t) (n / 1024) (n % 1024))) (eq-eqb n m e))

    elsewhere : (n ≡ m → ⊥) → entry (Some (with_place t (m % 1024) p)) (n / 1024) (n % 1024) ≡ entry (Some t) (n / 1024) (n % 1024)
    elsewhere ne = ⊎_elim
        (λ u. let ne' : n % 1024 ≡ m % 1024 → ⊥ = λ e. ne (omega arith) in
        own_entry (with_place t (m % 1024) p) (n / 1024) (n % 1024) u ∙ get_or-set_other t.places (m % 1024) (n % 1024) p 0 ne' ∙ sym (own_entry t (n / 1024) (n % 1024) u))
        (λ u. not_own (with_place t (m % 1024) p) (n / 1024) (n % 1024) u ∙ sym (not_own t (n / 1024) (n % 1024) u))
        (cases_eq t.upper (n / 1024))

    other : (n ≡ m → ⊥) → entry (Some (with_place t (m % 1024) p)) (n / 1024) (n % 1024) ≡ (if n == m then p else entry (Some t) (n / 1024) (n % 1024))
    other ne = elsewhere ne ∙ sym (ap (λ b. cond b p (entry (Some t) (n / 1024) (n % 1024))) (ne_eqb n m ne))

-- a place that is set in the table at k
pub place_set : (top : List ℕ) (ts : List Table) (k n m p : ℕ) (t : Table) → slice_index top (m / 1024) ≡ k → slice_get ts k ≡ Some t → t.upper ≡ m / 1024 → m % 1024 < length t.places
    → entry (slice_get (set ts k (with_place t (m % 1024) p)) (slice_index top (n / 1024))) (n / 1024) (n % 1024)
    ≡ (if n == m then p else entry (slice_get ts (slice_index top (n / 1024))) (n / 1024) (n % 1024))
place_set top ts k n m p t at is own within = ⊎_elim same other (cases_eq (slice_index top (n / 1024)) k)
  where
    same : slice_index top (n / 1024) ≡ k → entry (slice_get (set ts k (with_place t (m % 1024) p)) (slice_index top (n / 1024))) (n / 1024) (n % 1024) ≡ (if n == m then p else entry (slice_get ts (slice_index top (n / 1024))) (n / 1024) (n % 1024))
    same e =
        ap (λ i. entry (slice_get (set ts k (with_place t (m % 1024) p)) i) (n / 1024) (n % 1024)) e
        ∙ ap (λ o. entry o (n / 1024) (n % 1024)) (put_same ts k t (with_place t (m % 1024) p) is)
        ∙ entry_set t n m p own within
        ∙ ap (λ o. cond (n == m) p (entry o (n / 1024) (n % 1024))) (sym is)
        ∙ ap (λ i. cond (n == m) p (entry (slice_get ts i) (n / 1024) (n % 1024))) (sym e)

    other : (slice_index top (n / 1024) ≡ k → ⊥) → entry (slice_get (set ts k (with_place t (m % 1024) p)) (slice_index top (n / 1024))) (n / 1024) (n % 1024) ≡ (if n == m then p else entry (slice_get ts (slice_index top (n / 1024))) (n / 1024) (n % 1024))
    other ne =
        let apart : n ≡ m → ⊥ = λ e. ne (ap (λ n. slice_index top (n / 1024)) e ∙ at) in
        ap (λ o. entry o (n / 1024) (n % 1024)) (put_other ts k (slice_index top (n / 1024)) (with_place t (m % 1024) p) ne)
        ∙ sym (ap (λ b. cond b p (entry (slice_get ts (slice_index top (n / 1024))) (n / 1024) (n % 1024))) (ne_eqb n m apart))

-- the same where the index and the tables are known by equations
pub table_pushed : (top : List ℕ) (ts us : List Table) (u v k made : ℕ) → u < length top → ((j : ℕ) → entry (slice_get ts (slice_index top u)) u j ≡ 0) → made ≡ length ts → us ≡ ts ++ zeros u ∷ []
    → entry (slice_get us (slice_index (set top u made) v)) v k ≡ entry (slice_get ts (slice_index top v)) v k
table_pushed top ts us u v k made within none is now =
    ap (λ xs. entry (slice_get xs (slice_index (set top u made) v)) v k) now
    ∙ ap (λ m. entry (slice_get (ts ++ zeros u ∷ []) (slice_index (set top u m) v)) v k) is
    ∙ table_made top ts u v k within none

-- the same where the table is known by its index
pub place_set_in : (top : List ℕ) (ts : List Table) (k n m p : ℕ) (t : Table) → slice_index top (m / 1024) ≡ k → k < length ts → option_map (λ t. t.upper) (slice_get ts k) ≡ Some (m / 1024) → t ≡ get_or ts k t → m % 1024 < length t.places
    → entry (slice_get (set ts k (with_place t (m % 1024) p)) (slice_index top (n / 1024))) (n / 1024) (n % 1024)
    ≡ (if n == m then p else entry (slice_get ts (slice_index top (n / 1024))) (n / 1024) (n % 1024))
place_set_in top ts k n m p t at within own is places =
    let found : slice_get ts k ≡ Some t = slice_get-get_or ts k t within ∙ ap (λ x. Some x) (sym is) in
    place_set top ts k n m p t at found (same_Some _ _ (sym (ap (option_map (λ (t : Table). t.upper)) found) ∙ own)) places
