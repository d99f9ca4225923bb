-- What is joined behind an instruction where a mask grows.
use Rattle.std.proofs.Common.{◌≡◌, ℕ, ◌<◌, Bool, true, false, ◌||◌, List, [], ◌∷◌, ◌++◌, length, set, refl, sym, ap, ◌∙◌, subst, arith, eqb, ⊎_elim}
use Rattle.std.specs.Prelude.{fold, bit_or, All}
use Rattle.std.specs.Int.{bit_at}
use Rattle.std.proofs.lemmas.Bool.{cases_Bool, eqb-true, eq-eqb}
use Rattle.std.proofs.lemmas.Nat.Bits.{bit_at_or, same_from_bits}
use Rattle.std.proofs.lemmas.List.{get_or-set_same, get_or-set_other, length-set}
use Rattle.std.proofs.lemmas.List.Elements.{All-push}
use Rattle.fitting.specs.Claims.{among}
use Rattle.distill_rules.specs.declared.Mask.{Mask}
use Rattle.distill_rules.specs.Rounds.{joined}
use Rattle.liveness.specs.declared.behind.Behind.{Behind}
use Rattle.liveness.specs.Behind.{none_behind, behind_at, with_mask, IsJoined, IsSpread}
use Rattle.liveness.proofs.Places.{among_push}

pub or_false : (a b : Bool) → (a || b) ≡ false → (a ≡ false) × (b ≡ false)
or_false true b h = cc
or_false false b h = (refl, h)

-- ---- masks joined in any order, and twice

pub or_self : (a : ℕ) → bit_or a a ≡ a
or_self a = same_from_bits (bit_or a a) a (λ i. let e = bit_at_or a a i in omega (arith, e))

or_twice : (a m : ℕ) → bit_or (bit_or a m) m ≡ bit_or a m
or_twice a m = same_from_bits _ _ (λ i. let e = bit_at_or (bit_or a m) m i in let f = bit_at_or a m i in omega (arith, e, f))

or_more : (a x m : ℕ) → bit_or a m ≡ a → bit_or (bit_or a x) m ≡ bit_or a x
or_more a x m h =
    same_from_bits _ _ (λ i.
    let e = bit_at_or (bit_or a x) m i in
    let f = bit_at_or a x i in
    let g : bit_at (bit_or a m) i ≡ bit_at a i = ap (λ n. bit_at n i) h in
    let k = bit_at_or a m i in
    omega (arith, e, f, g, k))

or_alike : (a b x y m : ℕ) → bit_or a m ≡ bit_or b m → bit_or x m ≡ bit_or y m → bit_or (bit_or a x) m ≡ bit_or (bit_or b y) m
or_alike a b x y m h k =
    same_from_bits _ _ (λ i.
    let e = bit_at_or (bit_or a x) m i in
    let f = bit_at_or a x i in
    let g = bit_at_or (bit_or b y) m i in
    let l = bit_at_or b y i in
    let p : bit_at (bit_or a m) i ≡ bit_at (bit_or b m) i = ap (λ n. bit_at n i) h in
    let q : bit_at (bit_or x m) i ≡ bit_at (bit_or y m) i = ap (λ n. bit_at n i) k in
    let r = bit_at_or a m i in
    let s = bit_at_or b m i in
    let t = bit_at_or x m i in
    let u = bit_at_or y m i in
    omega (arith, e, f, g, l, p, q, r, s, t, u))

fold_alike : (f g : ℕ → ℕ) (m : ℕ) → ((q : ℕ) → bit_or (g q) m ≡ bit_or (f q) m) → (qs : List ℕ) (a b : ℕ) → bit_or a m ≡ bit_or b m
    → bit_or (fold (λ all q. bit_or all (g q)) a qs) m ≡ bit_or (fold (λ all q. bit_or all (f q)) b qs) m
fold_alike f g m h [] a b e = e
fold_alike f g m h (q ∷ qs) a b e = fold_alike f g m h qs (bit_or a (g q)) (bit_or b (f q)) (or_alike a b (g q) (f q) m e (h q))

fold_more : (g : ℕ → ℕ) (m : ℕ) (qs : List ℕ) (a : ℕ) → bit_or a m ≡ a → bit_or (fold (λ all q. bit_or all (g q)) a qs) m ≡ fold (λ all q. bit_or all (g q)) a qs
fold_more g m [] a h = h
fold_more g m (q ∷ qs) a h = fold_more g m qs (bit_or a (g q)) (or_more a (g q) m h)

fold_has : (g : ℕ → ℕ) (m c : ℕ) → g c ≡ m → (qs : List ℕ) (a : ℕ) → among qs c ≡ true
    → bit_or (fold (λ all q. bit_or all (g q)) a qs) m ≡ fold (λ all q. bit_or all (g q)) a qs
fold_has g m c e [] a h = absurd cc
fold_has g m c e (q ∷ qs) a h =
    ⊎_elim
    (λ (same : eqb q c ≡ true).
    let is : g q ≡ m = ap g (eqb-true q c same) ∙ e in
    fold_more g m qs (bit_or a (g q)) (subst (λ n. bit_or (bit_or a n) m ≡ bit_or a n) (sym is) (or_twice a m)))
    (λ (other : eqb q c ≡ false). fold_has g m c e qs (bit_or a (g q)) (sym (ap (λ b. b || among qs c) other) ∙ h))
    (cases_Bool (eqb q c))

-- where one of the masks grows that are joined, it is joined to them
pub joined_grown : (f g : ℕ → ℕ) (m c : ℕ) → g c ≡ m → bit_or (f c) m ≡ m → ((q : ℕ) → eqb q c ≡ false → g q ≡ f q) → (qs : List ℕ)
    → among qs c ≡ true → joined g qs ≡ bit_or (joined f qs) m
joined_grown f g m c e grows others qs h =
    let alike : (q : ℕ) → bit_or (g q) m ≡ bit_or (f q) m = λ q.
    ⊎_elim
    (λ (same : eqb q c ≡ true).
    let at : q ≡ c = eqb-true q c same in
    ap (λ n. bit_or n m) (ap g at ∙ e) ∙ or_self m ∙ sym (ap (λ x. bit_or (f x) m) at ∙ grows))
    (λ (other : eqb q c ≡ false). ap (λ n. bit_or n m) (others q other))
    (cases_Bool (eqb q c)) in
    sym (fold_has g m c e qs 0 h) ∙ fold_alike f g m alike qs 0 0 refl

-- ---- a mask is joined to one place after the other

with_twice : (e : Behind) (m : Mask) → with_mask (with_mask e m) m ≡ with_mask e m
with_twice e m = λ i. record { live = or_twice e.live m.live i; need = or_twice e.need m.need i }

pub spread_none : (m : Mask) (b : List Behind) (next : List ℕ) → IsSpread m [] b b next next
spread_none m b next = record { count = refl; joins = λ x l h. absurd cc; leaves = λ x l h. refl; places = λ h. h; waits = λ x h. (h, refl) }

pub spread_more : (m : Mask) (to : List ℕ) (b b' b'' : List Behind) (next next' next'' : List ℕ) (i : ℕ) → i < length b → IsSpread m to b b' next next'
    → b'' ≡ set b' i (with_mask (behind_at b' i) m) → IsJoined i b' b'' next' next'' → IsSpread m (to ++ i ∷ []) b b'' next next''
spread_more m to b b' b'' next next' next'' i inside h is joins =
    let e = with_mask (behind_at b' i) m in
    let here : behind_at b'' i ≡ e = ap (λ u. behind_at u i) is ∙ get_or-set_same b' i e none_behind (omega (arith, inside, h.count)) in
    let there : (x : ℕ) → eqb i x ≡ false → behind_at b'' x ≡ behind_at b' x =
    λ x k. ap (λ u. behind_at u x) is ∙ get_or-set_other b' i x e none_behind (λ (a : x ≡ i). cc (eq-eqb i x (sym a), k)) in
    let twice : behind_at b'' i ≡ with_mask (behind_at b i) m =
    ⊎_elim
    (λ (k : among to i ≡ true). here ∙ ap (λ u. with_mask u m) (h.joins i inside k) ∙ with_twice (behind_at b i) m)
    (λ (k : among to i ≡ false). here ∙ ap (λ u. with_mask u m) (h.leaves i inside k))
    (cases_Bool (among to i)) in
    record {
      count = ap length is ∙ length-set b' i e ∙ h.count;
      joins = λ x l k. ⊎_elim
          (λ (a : eqb i x ≡ true). subst (λ x. behind_at b'' x ≡ with_mask (behind_at b x) m) (eqb-true i x a) twice)
          (λ (a : eqb i x ≡ false). there x a ∙ h.joins x l (left_of (among to x) (eqb i x) a (sym (among_push to i x) ∙ k)))
          (cases_Bool (eqb i x));
      leaves = λ x l k. let parts = or_false (among to x) (eqb i x) (sym (among_push to i x) ∙ k) in there x parts.1 ∙ h.leaves x l parts.0;
      places = λ k. ⊎_elim
          (λ (same : (b'' ≡ b') × (next'' ≡ next')). subst (λ ns. All (λ j. j < length b) ns) (sym same.1) (h.places k))
          (λ (more : next'' ≡ next' ++ i ∷ []). subst (λ ns. All (λ j. j < length b) ns) (sym more) (All-push (λ j. j < length b) next' i (h.places k) inside))
          joins;
      waits = λ x k. ⊎_elim
          (λ (same : (b'' ≡ b') × (next'' ≡ next')).
          let before = h.waits x (sym (ap (λ ns. among ns x) same.1) ∙ k) in
          (before.0, ap (λ u. behind_at u x) same.0 ∙ before.1))
          (λ (more : next'' ≡ next' ++ i ∷ []).
          let parts = or_false (among next' x) (eqb i x) (sym (among_push next' i x) ∙ sym (ap (λ ns. among ns x) more) ∙ k) in
          let before = h.waits x parts.0 in
          (before.0, there x parts.1 ∙ before.1))
          joins;
    }
  where
    left_of : (a b : Bool) → b ≡ false → (a || b) ≡ true → a ≡ true
    left_of true b e h = refl
    left_of false b e h = cc
