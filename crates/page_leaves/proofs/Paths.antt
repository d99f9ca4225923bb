-- What a change of one child does to the leaves below a node.
use Rattle.std.proofs.Common.{◌≡◌, ℕ, suc, zero, ◌+◌, ◌-◌, ◌*◌, ◌/◌, ◌%◌, ◌^◌, ◌<◌, ◌==◌, if◌then◌else◌, cond, Option, None, Some, Result, Ok, Err, IfOk, ⊎_elim, sym, ap, ◌∙◌, subst, arith}
use Rattle.std.proofs.lemmas.Bool.{cases_eq, ne_eqb, eq-eqb}
use Rattle.std.proofs.lemmas.Nat.{div-add-mod'}
use Rattle.tree_node.specs.declared.node.Node.{Node}
use Rattle.std.specs.Global.{Global}
use Rattle.std.specs.declared.rc.Rc.{Rc}
use Rattle.tree_node.specs.Nodes.{child, owned}
use Rattle.page_leaves.specs.Paths.{kid, leaf_below, IsPlaced, AreSameBelow, AreOthersSame}

-- a number is what its quotient and its remainder are
same_number : (n m s : ℕ) → n / s ≡ m / s → n % s ≡ m % s → n ≡ m
same_number n m s q r = sym (div-add-mod' n s) ∙ ap (λ k. k * s + n % s) q ∙ ap (λ k. m / s * s + k) r ∙ div-add-mod' m s

module _ (d : ℕ) (before after inner : Option Node) (i number : ℕ) (digit : i ≡ number / 64 ^ d)
    (kids : (j : ℕ) → kid after j ≡ (if j == i then inner else kid before j)) where
  here : (n : ℕ) → n / 64 ^ d ≡ i → leaf_below (suc d) after n ≡ leaf_below d inner (n % 64 ^ d)
  here n e = ap (λ o. leaf_below d o (n % 64 ^ d)) (kids (n / 64 ^ d) ∙ ap (λ b. cond b inner (kid before (n / 64 ^ d))) (eq-eqb (n / 64 ^ d) i e))

  elsewhere : (n : ℕ) → (n / 64 ^ d ≡ i → ⊥) → leaf_below (suc d) after n ≡ leaf_below (suc d) before n
  elsewhere n ne = ap (λ o. leaf_below d o (n % 64 ^ d)) (kids (n / 64 ^ d) ∙ ap (λ b. cond b inner (kid before (n / 64 ^ d))) (ne_eqb (n / 64 ^ d) i ne))

  was : (n : ℕ) → n / 64 ^ d ≡ i → leaf_below (suc d) before n ≡ leaf_below d (kid before i) (n % 64 ^ d)
  was n e = ap (λ j. leaf_below d (kid before j) (n % 64 ^ d)) e

  -- the leaf of the number is another
  placed_below : (leaf : Option Node) → ((n : ℕ) → leaf_below d inner n ≡ (if n == number % 64 ^ d then leaf else leaf_below d (kid before i) n))
      → (n : ℕ) → leaf_below (suc d) after n ≡ (if n == number then leaf else leaf_below (suc d) before n)
  placed_below leaf is n = ⊎_elim same (λ ne. elsewhere n ne ∙ sym (ap (λ b. cond b leaf (leaf_below (suc d) before n)) (ne_eqb n number (λ e. ne (ap (λ k. k / 64 ^ d) e ∙ sym digit))))) (cases_eq (n / 64 ^ d) i)
    where
      same : n / 64 ^ d ≡ i → leaf_below (suc d) after n ≡ (if n == number then leaf else leaf_below (suc d) before n)
      same e = here n e ∙ is (n % 64 ^ d) ∙ ⊎_elim
          (λ r. ap (λ b. cond b leaf (leaf_below d (kid before i) (n % 64 ^ d))) (eq-eqb _ _ r)
          ∙ sym (ap (λ b. cond b leaf (leaf_below (suc d) before n)) (eq-eqb n number (same_number n number (64 ^ d) (e ∙ digit) r))))
          (λ ne. ap (λ b. cond b leaf (leaf_below d (kid before i) (n % 64 ^ d))) (ne_eqb _ _ ne)
          ∙ sym (was n e)
          ∙ sym (ap (λ b. cond b leaf (leaf_below (suc d) before n)) (ne_eqb n number (λ q. ne (ap (λ k. k % 64 ^ d) q)))))
          (cases_eq (n % 64 ^ d) (number % 64 ^ d))

  -- nothing changes
  same_below : ((n : ℕ) → leaf_below d inner n ≡ leaf_below d (kid before i) n) → (n : ℕ) → leaf_below (suc d) after n ≡ leaf_below (suc d) before n
  same_below is n = ⊎_elim (λ e. here n e ∙ is (n % 64 ^ d) ∙ sym (was n e)) (elsewhere n) (cases_eq (n / 64 ^ d) i)

  -- other leaves stay
  others_below : ((n : ℕ) → (n ≡ number % 64 ^ d → ⊥) → leaf_below d inner n ≡ leaf_below d (kid before i) n)
      → (n : ℕ) → (n ≡ number → ⊥) → leaf_below (suc d) after n ≡ leaf_below (suc d) before n
  others_below is n ne = ⊎_elim (λ e. here n e ∙ is (n % 64 ^ d) (λ r. ne (same_number n number (64 ^ d) (e ∙ digit) r)) ∙ sym (was n e)) (elsewhere n) (cases_eq (n / 64 ^ d) i)

-- a child is taken out and another put in
exchanged : (node mid after : Node) (i : ℕ) (inner : Option Node) → ((j : ℕ) → child mid j ≡ (if j == i then None else child node j)) → ((j : ℕ) → child after j ≡ (if j == i then inner else child mid j))
    → (j : ℕ) → child after j ≡ (if j == i then inner else child node j)
exchanged node mid after i inner out in' j = in' j ∙ ⊎_elim
    (λ e. ap (λ b. cond b inner (child mid j)) (eq-eqb j i e) ∙ sym (ap (λ b. cond b inner (child node j)) (eq-eqb j i e)))
    (λ ne. ap (λ b. cond b inner (child mid j)) (ne_eqb j i ne) ∙ out j ∙ ap (λ b. cond b None (child node j)) (ne_eqb j i ne) ∙ sym (ap (λ b. cond b inner (child node j)) (ne_eqb j i ne)))
    (cases_eq j i)

-- a leaf is put where the depth is 0
pub placed_at : (d number : ℕ) (before leaf : Option Node) → d ≡ 0 → number < 64 ^ d → IsPlaced d before leaf number leaf
placed_at zero number before leaf is small n = let z : number ≡ 0 = omega arith in ⊎_elim
    (λ e. ap (λ b. cond b leaf None) (eq-eqb n 0 e) ∙ sym (ap (λ b. cond b leaf (leaf_below 0 before n)) (eq-eqb n number (e ∙ sym z))))
    (λ ne. ap (λ b. cond b leaf None) (ne_eqb n 0 ne) ∙ sym (ap (λ b. cond b before None) (ne_eqb n 0 ne)) ∙ sym (ap (λ b. cond b leaf (leaf_below 0 before n)) (ne_eqb n number (λ e. ne (e ∙ z)))))
    (cases_eq n 0)
placed_at (suc d) number before leaf is small n = absurd (omega arith)

module _ (d : ℕ) (i number r : ℕ) (some : d ≡ 0 → ⊥) (digit : i ≡ number / 64 ^ (d - 1)) (left : r ≡ number % 64 ^ (d - 1)) where
  up : d ≡ suc (d - 1)
  up = omega arith

  -- under a node whose kids are the same but for one
  pub placed : (before after inner o leaf : Option Node) → o ≡ kid before i → ((j : ℕ) → kid after j ≡ (if j == i then inner else kid before j)) → IsPlaced (d - 1) o inner r leaf → IsPlaced d before after number leaf
  placed before after inner o leaf own kids is =
      subst (λ k. IsPlaced k before after number leaf) (sym up)
      (placed_below (d - 1) before after inner i number digit kids leaf (λ n. is n ∙ ap (λ m. if n == m then leaf else leaf_below (d - 1) o n) left ∙ ap (λ p. if n == number % 64 ^ (d - 1) then leaf else leaf_below (d - 1) p n) own))

  pub unchanged : (before after inner o : Option Node) → o ≡ kid before i → ((j : ℕ) → kid after j ≡ (if j == i then inner else kid before j)) → AreSameBelow (d - 1) o inner → AreSameBelow d before after
  unchanged before after inner o own kids is =
      subst (λ k. AreSameBelow k before after) (sym up) (same_below (d - 1) before after inner i number digit kids (λ n. is n ∙ ap (λ p. leaf_below (d - 1) p n) own))

  -- the same in place
  pub placed_in : (before inner o leaf : Option Node) (node mid after : Node) → before ≡ Some node → o ≡ child node i
      → ((j : ℕ) → child mid j ≡ (if j == i then None else child node j)) → ((j : ℕ) → child after j ≡ (if j == i then inner else child mid j))
      → IsPlaced (d - 1) o inner r leaf → IsPlaced d before (Some after) number leaf
  placed_in before inner o leaf node mid after there own out in' is =
      subst (λ b. IsPlaced d b (Some after) number leaf) (sym there) (placed (Some node) (Some after) inner o leaf own (exchanged node mid after i inner out in') is)

  pub unchanged_in : (before inner o : Option Node) (node mid after : Node) → before ≡ Some node → o ≡ child node i
      → ((j : ℕ) → child mid j ≡ (if j == i then None else child node j)) → ((j : ℕ) → child after j ≡ (if j == i then inner else child mid j))
      → AreSameBelow (d - 1) o inner → AreSameBelow d before (Some after)
  unchanged_in before inner o node mid after there own out in' is =
      subst (λ b. AreSameBelow d b (Some after)) (sym there) (unchanged (Some node) (Some after) inner o own (exchanged node mid after i inner out in') is)

  -- the leaf of the number lies under the child at its first digit
  pub down : (before : Option Node) → leaf_below d before number ≡ leaf_below (d - 1) (kid before i) r
  down before =
      subst (λ k. leaf_below k before number ≡ leaf_below (d - 1) (kid before i) r) (sym up)
      (ap (λ j. leaf_below (d - 1) (kid before j) (number % 64 ^ (d - 1))) (sym digit) ∙ ap (λ m. leaf_below (d - 1) (kid before i) m) (sym left))

  pub leaf_under : {E : Type 0} (res : Result (Option (Rc Node Global)) E) (before o : Option Node) → o ≡ kid before i
      → IfOk res (λ leaf. owned leaf ≡ leaf_below (d - 1) o r) → IfOk res (λ leaf. owned leaf ≡ leaf_below d before number)
  leaf_under (Ok leaf) before o own is = is ∙ ap (λ p. leaf_below (d - 1) p r) own ∙ sym (down before)
  leaf_under (Err e) before o own is = is

  pub others_in : (before inner o : Option Node) (node mid after : Node) → before ≡ Some node → o ≡ child node i
      → ((j : ℕ) → child mid j ≡ (if j == i then None else child node j)) → ((j : ℕ) → child after j ≡ (if j == i then inner else child mid j))
      → ((n : ℕ) → (n ≡ r → ⊥) → leaf_below (d - 1) inner n ≡ leaf_below (d - 1) o n) → (n : ℕ) → (n ≡ number → ⊥) → leaf_below d (Some after) n ≡ leaf_below d before n
  others_in before inner o node mid after there own out in' is = subst (λ b. AreOthersSame d b (Some after) number) (sym there) (subst (λ k. AreOthersSame k (Some node) (Some after) number) (sym up)
      (others_below (d - 1) (Some node) (Some after) inner i number digit (exchanged node mid after i inner out in')
      (λ n ne. is n (λ e. ne (e ∙ left)) ∙ ap (λ p. leaf_below (d - 1) p n) own)))
