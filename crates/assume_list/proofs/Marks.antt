-- Marks of one address after another, and marks that are alike.
use Rattle.std.proofs.Common.{◌≡◌, ℕ, zero, suc, ◌+◌, ◌%◌, ◌^◌, Bool, true, false, ◌||◌, cond, List, [], ◌∷◌, ◌++◌, map, refl, sym, ap, ◌∙◌, subst, true≢false, Option, Some, None, IfSome, arith}
use Rattle.std.proofs.lemmas.Bool.{eq-eqb, eqb-true, ne_eqb, or_left, or_right}
use Rattle.std.specs.Prelude.{nat_eq}
use Rattle.std.specs.Option.{option_eq}
use lib.Dec.{eqb}
use Rattle.std.proofs.lemmas.List.{map_push}
use Rattle.fitting.specs.Claims.{among}
use Rattle.profile_laws.specs.Tally.{places}
use Rattle.profile_laws.proofs.Listed.{among_push}

next_place : (k a : ℕ) → places (suc k) a ≡ places k a ++ (a + k) % 2 ^ 32 ∷ []
unfolding places
next_place zero a = ap (λ n. n % 2 ^ 32 ∷ []) (let e : a ≡ a + 0 = omega arith in e)
next_place (suc k) a = ap (λ ns. a % 2 ^ 32 ∷ ns) (next_place k (a + 1) ∙ ap (λ n. places k (a + 1) ++ n % 2 ^ 32 ∷ []) (let e : a + 1 + k ≡ a + suc k = omega arith in e))

places_more : (k a : ℕ) → places (k + 1) a ≡ places k a ++ (a + k) % 2 ^ 32 ∷ []
places_more k a = ap (λ n. places n a) (let e : k + 1 ≡ suc k = omega arith in e) ∙ next_place k a

joined : (xs ys zs : List ℕ) → (xs ++ ys) ++ zs ≡ xs ++ (ys ++ zs)
joined [] ys zs = refl
joined (x ∷ xs) ys zs = ap (λ rest. x ∷ rest) (joined xs ys zs)

pub one_more : (f : ℕ → ℕ) (old to : List ℕ) (k a n : ℕ) → among to n ≡ among (old ++ map f (places k a)) n
    → among (to ++ f ((a + k) % 2 ^ 32) ∷ []) n ≡ among (old ++ map f (places (k + 1) a)) n
one_more f old to k a n e =
    let mark = f ((a + k) % 2 ^ 32) in
    among_push to mark n
    ∙ ap (λ b. b || nat_eq mark n) e
    ∙ sym (among_push (old ++ map f (places k a)) mark n)
    ∙ ap (λ ms. among ms n)
    (joined old (map f (places k a)) (mark ∷ [])
    ∙ ap (λ ms. old ++ ms) (sym (map_push f (places k a) ((a + k) % 2 ^ 32)))
    ∙ ap (λ ns. old ++ map f ns) (sym (places_more k a)))

none_yet : (f : ℕ → ℕ) (old : List ℕ) (a : ℕ) → old ≡ old ++ map f (places 0 a)
unfolding places
none_yet f [] a = refl
none_yet f (x ∷ xs) a = ap (λ rest. x ∷ rest) (none_yet f xs a)

-- the marks of no byte add none
pub none_adds : (f : ℕ → ℕ) (old : List ℕ) (count from n : ℕ) → count ≡ 0 → among old n ≡ among (old ++ map f (places count from)) n
none_adds f old count from n e = ap (λ ms. among ms n) (none_yet f old from) ∙ ap (λ k. among (old ++ map f (places k from)) n) (sym e)

-- a mark that is 0 adds none
pub zero_adds : (old : List ℕ) (mark at : ℕ) → mark ≡ 0 → among old (at + 1) ≡ among (old ++ mark ∷ []) (at + 1)
zero_adds old mark at e =
    none (among old (at + 1)) (nat_eq mark (at + 1)) (ne_eqb mark (at + 1) (λ (h : mark ≡ at + 1). omega (arith, e, h))) ∙ sym (among_push old mark (at + 1))
  where
    none : (a b : Bool) → b ≡ false → a ≡ (a || b)
    none true b h = refl
    none false b h = sym h

-- ---- marks that are alike

pub no_byte : (count from a : ℕ) → count ≡ 0 → among (places count from) a ≡ true → ⊥
unfolding places
no_byte count from a e h = none from a (subst (λ n. among (places n from) a ≡ true) e h)
  where
    none : (from a : ℕ) → among (places 0 from) a ≡ true → ⊥
    none from a h = true≢false (sym h)

-- the first of some bytes
first_of : (p : ℕ) (ps : List ℕ) → among (p ∷ ps) p ≡ true
first_of p ps = or_left (nat_eq p p) _ (eq-eqb p p refl)

-- the marks of some bytes that have the same are that one
one_of : (p mark n : ℕ) (ps : List ℕ) (f : ℕ → ℕ) → ((a : ℕ) → among (p ∷ ps) a ≡ true → f a ≡ mark) → among (mark ∷ []) n ≡ among (map f (p ∷ ps)) n
one_of p mark n [] f same = ap (λ m. nat_eq m n || false) (sym (same p (first_of p [])))
one_of p mark n (q ∷ qs) f same =
    again (nat_eq mark n)
    ∙ ap (λ m. nat_eq m n || (nat_eq mark n || false)) (sym (same p (first_of p (q ∷ qs))))
    ∙ ap (λ b. nat_eq (f p) n || b) (one_of q mark n qs f (λ a h. same a (or_right (nat_eq p a) _ h)))
  where
    again : (b : Bool) → (b || false) ≡ (b || (b || false))
    again true = refl
    again false = refl

-- so they add that one
pub one_adds : (old : List ℕ) (count from mark n : ℕ) (f : ℕ → ℕ) → (count ≡ 0 → ⊥) → ((a : ℕ) → among (places count from) a ≡ true → f a ≡ mark)
    → among (old ++ mark ∷ []) n ≡ among (old ++ map f (places count from)) n
unfolding places
one_adds [] zero from mark n f some same = absurd (some refl)
one_adds [] (suc count) from mark n f some same = one_of (from % 2 ^ 32) mark n (places count (from + 1)) f same
one_adds (x ∷ old) count from mark n f some same = ap (λ b. nat_eq x n || b) (one_adds old count from mark n f some same)

-- bytes that have a mark need not be given it
pub put_already : (b : Bool) (there mark value : ℕ) → mark ≡ value → (b ≡ true → there ≡ mark) → there ≡ cond b value there
put_already true there mark value e h = h refl ∙ e
put_already false there mark value e h = refl

-- what is said of the mark that an answer has, where that is this mark
pub said_of : (answer : Option ℕ) (mark : ℕ) (P : ℕ → Type 0) → IfSome answer P → true ≡ option_eq eqb answer (Some mark) → P mark
said_of (Some m) mark P said e = subst P (eqb-true m mark (sym e)) said
said_of None mark P said e = absurd (true≢false e)
