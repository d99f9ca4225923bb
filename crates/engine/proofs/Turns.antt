-- The task that runs on a slave, where numbers of tasks follow one another and there are no more tasks than slaves.
use Rattle.std.proofs.Common.{◌≡◌, ℕ, ◌+◌, ◌-◌, ◌*◌, ◌/◌, ◌%◌, ◌<◌, ◌≤◌, zero, suc, Bool, true, false, cond, not, ◌&&◌, List, [], ◌∷◌, length, get_or, Some, None, inl, inr, refl, sym, ap, ◌∙◌, arith}
use Rattle.std.specs.Prelude.{map, is_some, nat_le, nat_lt}
use Rattle.std.specs.List.{position, position_or_len}
use Rattle.std.proofs.lemmas.Bool.{cases_lt, cases_eq, lt-ltb, le-ltb, lt-leb, le-leb, leb-true, leb-false, ne_eqb, eq-eqb}
use Rattle.std.proofs.lemmas.Nat.{div-add-mod', mod-mul-add, mod_below}
use Rattle.std.proofs.lemmas.List.{length-map}
use Rattle.std.proofs.lemmas.List.Sums.{position_or_len_is}
use Rattle.speculation.specs.Kept.{AreNumbered}
use Rattle.slave.specs.Task.{Shown, modelled as task_modelled}
use Rattle.engine.specs.Shown.{is_shown_run_by, place_of}

-- the first place that passes, and where none does
pub position_at : {X : Type 0} (p : X → Bool) (xs : List X) (i : ℕ) (d : X) → i < length xs → p (get_or xs i d) ≡ true → ((k : ℕ) → k < i → p (get_or xs k d) ≡ false) → position p xs ≡ Some i
position_at p xs i d l here before =
    let is : position_or_len p xs ≡ i = position_or_len_is p xs i d (omega (arith, l)) before (λ _. here) in
    ap (λ n. cond (nat_lt n (length xs)) (Some n) None) is ∙ ap (λ b. cond b (Some i) None) (lt-ltb i (length xs) l)

pub position_none : {X : Type 0} (p : X → Bool) (xs : List X) (d : X) → ((k : ℕ) → k < length xs → p (get_or xs k d) ≡ false) → position p xs ≡ None
position_none p xs d none =
    let is : position_or_len p xs ≡ length xs = position_or_len_is p xs (length xs) d (omega arith) none (λ l. absurd (omega (arith, l))) in
    ap (λ n. cond (nat_lt n (length xs)) (Some n) None) is ∙ ap (λ b. cond b (Some (length xs)) None) (le-ltb (length xs) (length xs) (omega arith))

pub none_passes_in : {X : Type 0} (p : X → Bool) (xs : List X) → ((k : ℕ) (d : X) → k < length xs → p (get_or xs k d) ≡ false) → position p xs ≡ None
none_passes_in p [] none = refl
none_passes_in p (x ∷ xs) none = position_none p (x ∷ xs) x (λ k. none k x)

-- a number and i more, modulo s
module _ (s f i : ℕ) (l : i < s) where
  parts : f / s * s + f % s ≡ f
  parts = div-add-mod' f s

  below : f % s + i < s → (f + i) % s ≡ f % s + i
  below h =
      let sum : f + i ≡ f / s * s + (f % s + i) = omega (arith, parts) in
      ap (λ n. n % s) sum ∙ mod-mul-add (f / s) s (f % s + i) h

  above : s ≤ f % s + i → f % s < s → (f + i) % s ≡ f % s + i - s
  above h r =
      let next : suc (f / s) * s ≡ f / s * s + s = omega arith in
      let sum : f + i ≡ suc (f / s) * s + (f % s + i - s) = omega (arith, parts, next, h) in
      ap (λ n. n % s) sum ∙ mod-mul-add (suc (f / s)) s (f % s + i - s) (omega (arith, h, r, l))

-- with the place of slave j, by the number f of the oldest task: i is that place exactly where f + i is j modulo s
module _ (s f j : ℕ) (slave : j < s) where
  remainder : f % s < s
  remainder = mod_below f s (omega (arith, slave))

  pub place_within : place_of s f j < s
  place_within = within_if_behind (nat_le (f % s) j) refl
    where
      within_if_behind : (b : Bool) → nat_le (f % s) j ≡ b → cond b (j - f % s) (j + s - f % s) < s
      within_if_behind true e = omega (arith, slave)
      within_if_behind false e = let l = leb-false (f % s) j e in omega (arith, slave, l)

  pub meets_there : (f + place_of s f j) % s ≡ j
  meets_there = meets_if_behind (nat_le (f % s) j) refl
    where
      meets_if_behind : (b : Bool) → nat_le (f % s) j ≡ b → (f + cond b (j - f % s) (j + s - f % s)) % s ≡ j
      meets_if_behind true e =
          let l = leb-true (f % s) j e in
          below s f (j - f % s) (omega (arith, slave)) (omega (arith, l, slave)) ∙ omega (arith, l)
      meets_if_behind false e =
          let l = leb-false (f % s) j e in
          let r = remainder in
          above s f (j + s - f % s) (omega (arith, slave, l)) (omega (arith, l, r)) r ∙ omega (arith, l, r)

  pub only_there : (i : ℕ) → i < s → (f + i) % s ≡ j → i ≡ place_of s f j
  only_there i l is = elim (cases_lt (f % s + i) s) [
    | inl less ↦
        let sum = sym (below s f i l less) ∙ is in
        let h : f % s ≤ j = omega (arith, sum) in
        omega (arith, sum) ∙ ap (λ b. cond b (j - f % s) (j + s - f % s)) (sym (le-leb (f % s) j h))
    | inr more ↦
        let r = remainder in
        let sum = sym (above s f i l more r) ∙ is in
        let h : j < f % s = omega (arith, sum, l, more) in
        omega (arith, sum, more, r) ∙ ap (λ b. cond b (j - f % s) (j + s - f % s)) (sym (lt-leb (f % s) j h))
  ]

-- the i-th number, by the next one
pub number_at : {X : Type 0} (g : X → Shown) (xs : List X) (next i : ℕ) (d : X) → AreNumbered next (map task_modelled (map g xs)) → i < length xs → (g (get_or xs i d)).number + length xs ≡ next + i
number_at g [] next i d h l = absurd (omega (arith, l))
number_at g (x ∷ xs) next zero d h l =
    let n = h.0 in
    let len : length (map task_modelled (map g xs)) ≡ length xs = length-map (map g xs) task_modelled ∙ length-map xs g in
    omega (arith, n, len)
number_at g (x ∷ xs) next (suc i) d h l = let rest = number_at g xs next i d h.1 (omega (arith, l)) in omega (arith, rest)

-- there were no fewer tasks than live
pub few_live : {X : Type 0} (g : X → Shown) (xs : List X) (next : ℕ) → AreNumbered next (map task_modelled (map g xs)) → length xs ≤ next
few_live g [] next h = omega arith
few_live g (x ∷ xs) next h =
    let n = h.0 in
    let len : length (map task_modelled (map g xs)) ≡ length xs = length-map (map g xs) task_modelled ∙ length-map xs g in
    omega (arith, n, len)

-- tasks xs with consecutive numbers, the oldest of number f, on s slaves
module _ {X : Type 0} (g : X → Shown) (s j next f : ℕ) (xs : List X) (few : length xs ≤ s) (numbers : AreNumbered next (map task_modelled (map g xs))) (first : f + length xs ≡ next) where
  abbrev runs : X → Bool
  runs t = is_shown_run_by s j (g t)

  abbrev place : ℕ
  place = place_of s f j

  number_is : (i : ℕ) (d : X) → i < length xs → (g (get_or xs i d)).number ≡ f + i
  number_is i d l = let this = number_at g xs next i d numbers l in omega (arith, first, this)

  -- a slave that there is not runs none
  pub none_beyond : s ≤ j → position runs xs ≡ None
  none_beyond far = none_passes_in runs xs (λ k d l.
      let r = mod_below (g (get_or xs k d)).number s (omega (arith, few, l)) in
      ap (λ b. b && not (is_some (g (get_or xs k d)).ending)) (ne_eqb ((g (get_or xs k d)).number % s) j (λ e. omega (arith, e, r, far))))

  module _ (slave : j < s) where
    elsewhere : (k : ℕ) (d : X) → k < length xs → (k ≡ place → ⊥) → runs (get_or xs k d) ≡ false
    elsewhere k d l other =
        ap (λ b. b && not (is_some (g (get_or xs k d)).ending))
        (ne_eqb ((g (get_or xs k d)).number % s) j (λ e. other (only_there s f j slave k (omega (arith, l, few)) (ap (λ n. n % s) (sym (number_is k d l)) ∙ e))))

    there : (d : X) → place < length xs → runs (get_or xs place d) ≡ not (is_some (g (get_or xs place d)).ending)
    there d l =
        ap (λ b. b && not (is_some (g (get_or xs place d)).ending))
        (eq-eqb ((g (get_or xs place d)).number % s) j (ap (λ n. n % s) (number_is place d l) ∙ meets_there s f j slave))

    -- the task at the place runs, or is done; or there is none at it
    pub runs_there : (t : X) → place < length xs → t ≡ get_or xs place t → is_some (g t).ending ≡ false → position runs xs ≡ Some place
    runs_there t l at going =
        position_at runs xs place t l
        (there t l ∙ ap (λ (y : X). not (is_some (g y).ending)) (sym at) ∙ ap not going)
        (λ k b. elsewhere k t (omega (arith, l, b)) (λ e. omega (arith, e, b)))

    pub done_there : (t : X) → place < length xs → t ≡ get_or xs place t → is_some (g t).ending ≡ true → position runs xs ≡ None
    done_there t l at done =
        position_none runs xs t (λ k h. elim (cases_eq k place) [
          | inl e ↦ ap (λ n. runs (get_or xs n t)) e ∙ there t l ∙ ap (λ (y : X). not (is_some (g y).ending)) (sym at) ∙ ap not done
          | inr e ↦ elsewhere k t h e
        ])

    pub none_there : length xs ≤ place → position runs xs ≡ None
    none_there far = none_passes_in runs xs (λ k d h. elsewhere k d h (λ e. omega (arith, e, h, far)))
