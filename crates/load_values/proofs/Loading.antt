-- At how many pcs a load was executed.
use Rattle.std.proofs.Common.{◌≡◌, ℕ, zero, suc, ◌+◌, ◌≤◌, Bool, true, false, not, ◌&&◌, ◌||◌, cond, [], ◌∷◌, ◌++◌, length, Option, Some, None, refl, sym, ap, ◌∙◌, subst, ⊎_elim, arith}
use Rattle.std.specs.Prelude.{nat_eq}
use Rattle.std.proofs.lemmas.Bool.{cases_eq}
use Rattle.std.proofs.lemmas.List.{length-append}
use Rattle.cells.specs.Run.{State}
use Rattle.fitting.specs.Claims.{among}
use Rattle.fitting.specs.Fails.{pc_at, fetched_at}
use Rattle.profile_laws.specs.Profiles.{with_new}
use Rattle.profile_laws.proofs.Listed.{among_with_new}
use Rattle.load_values.specs.declared.sight.Sight.{Sight}
use Rattle.load_values.specs.declared.sight.Sight.TheVariants.{Value, Executed, Hidden, Nothing}
use Rattle.load_values.specs.declared.loads.Found.{Found}
use Rattle.load_values.specs.declared.loads.Found.TheVariants.{One, Many, Unseen}
use Rattle.load_values.specs.Found.{is_load, loading, IsWide}
use Rattle.load_values.specs.Sights.{sight_at, one_more, hidden, noted, known_after, known_at, executes, is_executed, newly, weight}
use Rattle.load_values.proofs.Told.{executes_load}

-- ---- what is known after a position

one_executed : (v : ℕ) (k : Option Found) → is_executed (Some (one_more v k)) ≡ true
one_executed v None = refl
one_executed v (Some (One u)) = one_or_many (nat_eq u v)
  where
    one_or_many : (b : Bool) → is_executed (Some (cond b (One u) Many)) ≡ true
    one_or_many true = refl
    one_or_many false = refl
one_executed v (Some Many) = refl
one_executed v (Some Unseen) = refl

hidden_executed : (k : Option Found) → is_executed (Some (hidden k)) ≡ is_executed k
hidden_executed None = refl
hidden_executed (Some (One u)) = refl
hidden_executed (Some Many) = refl
hidden_executed (Some Unseen) = refl

pub noted_executed : (s : Sight) (k : Option Found) → is_executed (Some (noted s k)) ≡ (executes s || is_executed k)
noted_executed (Value v) k = one_executed v k
noted_executed Executed k = refl
noted_executed Hidden k = hidden_executed k
noted_executed Nothing k = hidden_executed k

after_executed : (s : Sight) (k : Option Found) → is_executed (known_after s k) ≡ (executes s || is_executed k)
after_executed (Value v) k = one_executed v k
after_executed Executed k = refl
after_executed Hidden k = hidden_executed k
after_executed Nothing k = refl

-- what is counted once more
pub weight_noted : (s : Sight) (k : Option Found) → weight (noted s k) ≡ cond (is_executed k) 1 0 + newly s k
weight_noted s k = ap (λ (b : Bool). cond b 1 0) (noted_executed s k) ∙ more_if_new (executes s) (is_executed k)
  where
    more_if_new : (a b : Bool) → cond (a || b) 1 0 ≡ cond b 1 0 + cond (a && not b) 1 0
    more_if_new true true = refl
    more_if_new true false = refl
    more_if_new false true = refl
    more_if_new false false = refl

-- ---- the pcs of loads

or_false : (b : Bool) → (b || false) ≡ b
or_false true = refl
or_false false = refl

or_true : (b : Bool) → (b || true) ≡ true
or_true true = refl
or_true false = refl

module _ (start : State) where
  -- a pc is among them exactly where its load is known to have been executed
  pub among_loading : (n p : ℕ) → among (loading start n) p ≡ is_executed (known_at start p n)
  unfolding loading known_at
  among_loading zero p = refl
  among_loading (suc n) p = if_loading (is_load (fetched_at start n)) (nat_eq (pc_at start n) p) refl refl (among_loading n p)
    where
      q : ℕ
      q = pc_at start n

      after : (a : Bool) → is_load (fetched_at start n) ≡ a → is_executed (known_after (sight_at start n) (known_at start p n)) ≡ (a || is_executed (known_at start p n))
      after a e = after_executed (sight_at start n) (known_at start p n) ∙ ap (λ (b : Bool). b || is_executed (known_at start p n)) (executes_load start n ∙ e)

      if_loading : (a b : Bool) → is_load (fetched_at start n) ≡ a → nat_eq (pc_at start n) p ≡ b → among (loading start n) p ≡ is_executed (known_at start p n)
          → among (cond a (with_new (pc_at start n) (loading start n)) (loading start n)) p ≡ is_executed (cond b (known_after (sight_at start n) (known_at start p n)) (known_at start p n))
      if_loading true true e f was = among_with_new (loading start n) q p ∙ ap (λ (b : Bool). among (loading start n) p || b) f ∙ or_true (among (loading start n) p) ∙ sym (after true e)
      if_loading true false e f was = among_with_new (loading start n) q p ∙ ap (λ (b : Bool). among (loading start n) p || b) f ∙ or_false (among (loading start n) p) ∙ was
      if_loading false true e f was = was ∙ sym (after false e)
      if_loading false false e f was = was

  -- how many there are after one position more
  pub loading_next : (n : ℕ) → length (loading start (suc n)) ≡ length (loading start n) + newly (sight_at start n) (known_at start (pc_at start n) n)
  unfolding loading
  loading_next n =
      longer_if_new (is_load (fetched_at start n)) (among (loading start n) (pc_at start n))
      ∙ ap (λ (b : Bool). length (loading start n) + cond (b && not (among (loading start n) (pc_at start n))) 1 0) (sym (executes_load start n))
      ∙ ap (λ (b : Bool). length (loading start n) + cond (executes (sight_at start n) && not b) 1 0) (among_loading n (pc_at start n))
    where
      longer_if_new : (a b : Bool)
          → length (cond a (cond b (loading start n) (loading start n ++ pc_at start n ∷ [])) (loading start n)) ≡ length (loading start n) + cond (a && not b) 1 0
      longer_if_new true true = omega arith
      longer_if_new true false = let e = length-append (loading start n) (pc_at start n ∷ []) in omega arith
      longer_if_new false true = omega arith
      longer_if_new false false = omega arith

  more_loading : (n : ℕ) → length (loading start n) ≤ length (loading start (suc n))
  more_loading n = let e = loading_next n in omega arith

  -- what is too wide stays so
  pub wide_stays : (k n : ℕ) → k ≤ n → IsWide start k → IsWide start n
  wide_stays k zero le h = let e : k ≡ 0 = omega arith in subst (λ (m : ℕ). IsWide start m) e h
  wide_stays k (suc n) le h = ⊎_elim
      (λ (e : k ≡ suc n). subst (λ (m : ℕ). IsWide start m) e h)
      (λ (ne : k ≡ suc n → ⊥). let w = wide_stays k n (omega arith) h in let m = more_loading n in omega arith)
      (cases_eq k (suc n))
