-- What is known of a load after n positions, against what these positions do.
use Rattle.std.proofs.Common.{◌≡◌, ℕ, zero, suc, ◌<◌, Bool, true, false, cond, Option, Some, None, refl, sym, ap, ◌∙◌, subst, ⊎_elim, true≢false, arith}
use Rattle.std.specs.Prelude.{nat_eq}
use Rattle.std.proofs.lemmas.Bool.{eqb-true, eqb-false, cases_eq}
use Rattle.rv_word.specs.Meaning.{meaning}
use Rattle.cells.specs.Run.{State}
use Rattle.fitting.specs.Fails.{program, pc_at}
use Rattle.load_values.specs.declared.sight.Sight.{Sight}
use Rattle.load_values.specs.declared.sight.Sight.TheVariants.{Value, Executed, Hidden, Nothing}
use Rattle.load_values.specs.declared.loads.Found.{Found}
use Rattle.load_values.specs.declared.loads.Found.TheVariants.{One, Many, Unseen}
use Rattle.load_values.specs.Found.{is_load, Gives, AllGive, IsValueAt}
use Rattle.load_values.specs.Sights.{sight_at, one_more, hidden, known_after, known_at}
use Rattle.load_values.proofs.Told.{gives, no_load, own_load, one_value, not_given}

executed_apart : (v : ℕ) → Executed ≡ Value v → ⊥
executed_apart v e = absurd cc

hidden_apart : (v : ℕ) → Hidden ≡ Value v → ⊥
hidden_apart v e = absurd cc

nothing_apart : (v : ℕ) → Nothing ≡ Value v → ⊥
nothing_apart v e = absurd cc

module _ (start : State) (p : ℕ) where
  -- no value is given by all of the first n positions with the pc
  abbrev NoneGiven : ℕ → Type 0
  NoneGiven n = (v : ℕ) → AllGive start n p v → ⊥

  -- what is known says this of the first n positions
  abbrev Says : ℕ → Option Found → Type 0
  Says n None = (i : ℕ) → i < n → pc_at start i ≡ p → sight_at start i ≡ Nothing
  Says n (Some (One v)) = IsValueAt start n p v
  Says n (Some Many) = NoneGiven n
  Says n (Some Unseen) = NoneGiven n

  none_more : (n : ℕ) → NoneGiven n → NoneGiven (suc n)
  none_more n none v all = none v (λ i lt at. all i (omega arith) at)

  -- the program has a load at the pc, if a value is given there
  seen : (i v : ℕ) → pc_at start i ≡ p → Gives start i v → (j : ℕ) → pc_at start j ≡ p → sight_at start j ≡ Nothing → ⊥
  seen i v at g j there e =
      let there_is : is_load (meaning (program start p)) ≡ true = ap (λ (q : ℕ). is_load (meaning (program start q))) (sym at) ∙ own_load start i v g in
      let none : is_load (meaning (program start p)) ≡ false = ap (λ (q : ℕ). is_load (meaning (program start q))) (sym there) ∙ no_load start j e in
      absurd (true≢false (sym there_is ∙ none))

  -- ---- a position at another pc

  -- position i of the first n + 1 is one of the first n
  before : (n i : ℕ) → (pc_at start n ≡ p → ⊥) → i < suc n → pc_at start i ≡ p → i < n
  before n i away lt at = ⊎_elim (λ (e : i ≡ n). absurd (away (subst (λ (k : ℕ). pc_at start k ≡ p) e at))) (λ (ne : i ≡ n → ⊥). omega arith) (cases_eq i n)

  elsewhere : (n : ℕ) (k : Option Found) → (pc_at start n ≡ p → ⊥) → Says n k → Says (suc n) k
  elsewhere n None away says = λ i lt at. says i (before n i away lt at) at
  elsewhere n (Some (One v)) away says = record { stood = (says.stood.0, omega (arith, says.stood.1), says.stood.2); each = λ i lt at. says.each i (before n i away lt at) at }
  elsewhere n (Some Many) away says = none_more n says
  elsewhere n (Some Unseen) away says = none_more n says

  -- ---- a position at the pc

  module _ (n : ℕ) (here : pc_at start n ≡ p) where
    -- one that gives no value
    breaks : (s : Sight) → sight_at start n ≡ s → ((v : ℕ) → s ≡ Value v → ⊥) → NoneGiven (suc n)
    breaks s e away v all = not_given start n v s e (away v) (all n (omega arith) here)

    with_here : (v : ℕ) → AllGive start n p v → Gives start n v → AllGive start (suc n) p v
    with_here v all g i lt at = ⊎_elim (λ (e : i ≡ n). subst (λ (k : ℕ). Gives start k v) (sym e) g) (λ (ne : i ≡ n → ⊥). all i (omega arith) at) (cases_eq i n)

    -- a value after another
    after_one : (u v : ℕ) → Gives start n v → IsValueAt start n p u → (b : Bool) → nat_eq u v ≡ b → Says (suc n) (Some (cond b (One u) Many))
    after_one u v g says true e =
        record { stood = (says.stood.0, omega (arith, says.stood.1), says.stood.2); each = with_here u says.each (subst (λ (w : ℕ). Gives start n w) (sym (eqb-true u v e)) g) }
    after_one u v g says false e = λ w all.
        let s = says.stood in
        let once : u ≡ w = one_value start s.0 u w (says.each s.0 s.1 s.2) (all s.0 (omega (arith, s.1)) s.2) in
        let now : w ≡ v = one_value start n w v (all n (omega arith) here) g in
        eqb-false u v e (once ∙ now)

    at_value : (v : ℕ) (k : Option Found) → Gives start n v → Says n k → Says (suc n) (Some (one_more v k))
    at_value v None g says = record { stood = (n, omega arith, here); each = with_here v (λ i lt at. absurd (seen n v here g i at (says i lt at))) g }
    at_value v (Some (One u)) g says = after_one u v g says (nat_eq u v) refl
    at_value v (Some Many) g says = none_more n says
    at_value v (Some Unseen) g says = none_more n says

    at_hidden : (k : Option Found) → sight_at start n ≡ Hidden → Says (suc n) (Some (hidden k))
    at_hidden None e = breaks Hidden e hidden_apart
    at_hidden (Some (One u)) e = breaks Hidden e hidden_apart
    at_hidden (Some Many) e = breaks Hidden e hidden_apart
    at_hidden (Some Unseen) e = breaks Hidden e hidden_apart

    at_nothing : (k : Option Found) → sight_at start n ≡ Nothing → Says n k → Says (suc n) k
    at_nothing None e says = λ i lt at. ⊎_elim (λ (same : i ≡ n). subst (λ (j : ℕ). sight_at start j ≡ Nothing) (sym same) e) (λ (ne : i ≡ n → ⊥). says i (omega arith) at) (cases_eq i n)
    at_nothing (Some (One v)) e says = let s = says.stood in absurd (seen s.0 v s.2 (says.each s.0 s.1 s.2) n here e)
    at_nothing (Some Many) e says = none_more n says
    at_nothing (Some Unseen) e says = none_more n says

    at_pc : (s : Sight) (k : Option Found) → sight_at start n ≡ s → Says n k → Says (suc n) (known_after s k)
    at_pc (Value v) k e says = at_value v k (gives start n v e) says
    at_pc Executed k e says = breaks Executed e executed_apart
    at_pc Hidden k e says = at_hidden k e
    at_pc Nothing k e says = at_nothing k e says

  -- ---- all positions

  says : (n : ℕ) → Says n (known_at start p n)
  unfolding known_at
  says zero = λ i lt at. absurd (omega arith)
  says (suc n) = if_at_pc (nat_eq (pc_at start n) p) refl (says n)
    where
      if_at_pc : (b : Bool) → nat_eq (pc_at start n) p ≡ b → Says n (known_at start p n) → Says (suc n) (cond b (known_after (sight_at start n) (known_at start p n)) (known_at start p n))
      if_at_pc true e before = at_pc n (eqb-true (pc_at start n) p e) (sight_at start n) (known_at start p n) refl before
      if_at_pc false e before = elsewhere n (known_at start p n) (eqb-false (pc_at start n) p e) before

  pub value_is : (n v : ℕ) → known_at start p n ≡ Some (One v) → IsValueAt start n p v
  value_is n v e = subst (λ (k : Option Found). Says n k) e (says n)

  pub is_known : (n v : ℕ) → IsValueAt start n p v → known_at start p n ≡ Some (One v)
  is_known n v is = only_one (known_at start p n) (says n)
    where
      s : (i : ℕ) × (i < n) × (pc_at start i ≡ p)
      s = is.stood

      only_one : (k : Option Found) → Says n k → k ≡ Some (One v)
      only_one None says = absurd (not_given start s.0 v Nothing (says s.0 s.1 s.2) (nothing_apart v) (is.each s.0 s.1 s.2))
      only_one (Some (One u)) says = ap (λ (w : ℕ). Some (One w)) (one_value start s.0 u v (says.each s.0 s.1 s.2) (is.each s.0 s.1 s.2))
      only_one (Some Many) says = absurd (says v is.each)
      only_one (Some Unseen) says = absurd (says v is.each)
