-- Looks that differ in marks alone which no listed assumption asks for tell the same.
use Rattle.std.proofs.Common.{◌≡◌, ℕ, zero, suc, ◌+◌, Bool, true, false, ◌||◌, cond, List, [], ◌∷◌, map, Option, Some, refl, sym, ap, ◌∙◌, arith}
use Rattle.rv_semantics.specs.Effect.{is_store}
use Rattle.std.specs.Prelude.{nat_eq, slice_get}
use Rattle.std.proofs.lemmas.Bool.{eq-eqb, ne_eqb}
use Rattle.rv_word.specs.Meaning.{meaning}
use Rattle.cells.specs.Run.{State}
use Rattle.rv_semantics.specs.Machine.{word_at}
use Rattle.dist_image.specs.Image.{Premise, Cut, Targets, Dead, Code, Within, Span, Same}
use Rattle.fitting.specs.Claims.{among}
use Rattle.profile_laws.specs.Tally.{bytes_in, stored}
use Rattle.assumption_laws.specs.Looks.{Look, fails_by, first_from}
use Rattle.assume_list.specs.Marks.{with_dead, counted}
use Rattle.assume_list.specs.Sights.{marks_after}

-- ---- the first that fails

pub same_first : (f g : Premise → Bool) (k : ℕ) (xs : List Premise) → ((j : ℕ) (x : Premise) → slice_get xs j ≡ Some x → f x ≡ g x) → first_from f k xs ≡ first_from g k xs
same_first f g k [] e = refl
same_first f g k (x ∷ xs) e = ap (λ b. cond b (Some k) (first_from f (suc k) xs)) (e 0 x refl) ∙ ap (cond (g x) (Some k)) (same_first f g (suc k) xs (λ j y at. e (suc j) y at))

-- all but the marks is the same, and the marks are those of the same stores, of those with this pc
pub record IsAlike (v w : Look) : Type 0 where
  pub pc : v.pc ≡ w.pc
  pub stops : v.stops ≡ w.stops
  pub side : v.side ≡ w.side
  pub jumps : v.jumps ≡ w.jumps
  pub changed : v.changed ≡ w.changed
  pub analysed : v.analysed ≡ w.analysed
  pub next : v.next ≡ w.next
  pub stays : v.stays ≡ w.stays
  pub load : v.load ≡ w.load

abbrev pub AreMarked : Premise → List ℕ → List ℕ → Type 0
AreMarked (Dead at) ms ns = among ms (at + 1) ≡ among ns (at + 1)
AreMarked _ ms ns = Unit {0}

pub same_fails : (v w : Look) → IsAlike v w → (x : Premise) → AreMarked x v.marks w.marks → fails_by v x ≡ fails_by w x
same_fails v w e (Cut at taken) m = cc
same_fails v w e (Targets at to) m = cc
same_fails v w e (Dead at) m = m
same_fails v w e Code m = cc
same_fails v w e Within m = cc
same_fails v w e Span m = refl
same_fails v w e (Same at value) m = cc

-- ---- dead stores that are listed

premise_is : (x y : Premise) → ◌≡◌ {A = Option Premise} (Some x) (Some y) → x ≡ y
premise_is x y e = cc

stays_dead : (xs : List Premise) (m : ℕ → ℕ) (a : ℕ) → nat_eq (m a) 0 ≡ false → nat_eq (with_dead xs m a) 0 ≡ false
stays_dead [] m a h = h
stays_dead (Cut at taken ∷ xs) m a h = stays_dead xs m a h
stays_dead (Targets at to ∷ xs) m a h = stays_dead xs m a h
stays_dead (Code ∷ xs) m a h = stays_dead xs m a h
stays_dead (Within ∷ xs) m a h = stays_dead xs m a h
stays_dead (Span ∷ xs) m a h = stays_dead xs m a h
stays_dead (Same at value ∷ xs) m a h = stays_dead xs m a h
stays_dead (Dead at ∷ xs) m a h = stays_dead xs (λ b. cond (nat_eq at b) 1 (m b)) a (if_claimed (nat_eq at a))
  where
    if_claimed : (t : Bool) → nat_eq (cond t 1 (m a)) 0 ≡ false
    if_claimed true = refl
    if_claimed false = h

here_dead : (xs : List Premise) (m : ℕ → ℕ) (p at : ℕ) → p ≡ at → nat_eq (with_dead xs (λ b. cond (nat_eq p b) 1 (m b)) at) 0 ≡ false
here_dead xs m p at e = stays_dead xs (λ b. cond (nat_eq p b) 1 (m b)) at (ap (λ t. nat_eq (cond t 1 (m at)) 0) (eq-eqb p at e))

dead_is : (p at : ℕ) → Dead p ≡ Dead at → p ≡ at
dead_is p at e = cc

pub listed_dead : (xs : List Premise) (m : ℕ → ℕ) (k at : ℕ) → slice_get xs k ≡ Some (Dead at) → nat_eq (with_dead xs m at) 0 ≡ false
listed_dead [] m k at e = absurd (cc)
listed_dead (Cut p taken ∷ xs) m zero at e = absurd (cc)
listed_dead (Targets p to ∷ xs) m zero at e = absurd (cc)
listed_dead (Code ∷ xs) m zero at e = absurd (cc)
listed_dead (Within ∷ xs) m zero at e = absurd (cc)
listed_dead (Span ∷ xs) m zero at e = absurd (cc)
listed_dead (Same p value ∷ xs) m zero at e = absurd (cc)
listed_dead (Dead p ∷ xs) m zero at e = here_dead xs m p at (dead_is p at (premise_is (Dead p) (Dead at) e))
listed_dead (Cut p taken ∷ xs) m (suc k) at e = listed_dead xs m k at e
listed_dead (Targets p to ∷ xs) m (suc k) at e = listed_dead xs m k at e
listed_dead (Code ∷ xs) m (suc k) at e = listed_dead xs m k at e
listed_dead (Within ∷ xs) m (suc k) at e = listed_dead xs m k at e
listed_dead (Span ∷ xs) m (suc k) at e = listed_dead xs m k at e
listed_dead (Same p value ∷ xs) m (suc k) at e = listed_dead xs m k at e
listed_dead (Dead p ∷ xs) m (suc k) at e = listed_dead xs (λ b. cond (nat_eq p b) 1 (m b)) k at e

-- ---- marks that count

same_count : (dead : ℕ → ℕ) (w at : ℕ) → nat_eq (dead at) 0 ≡ false → nat_eq (counted dead w) (at + 1) ≡ nat_eq w (at + 1)
same_count dead zero at h = refl
same_count dead (suc pc) at h = if_not_dead (nat_eq (dead pc) 0) refl
  where
    if_not_dead : (b : Bool) → nat_eq (dead pc) 0 ≡ b → nat_eq (cond b 0 (suc pc)) (at + 1) ≡ nat_eq (suc pc) (at + 1)
    if_not_dead false e = refl
    if_not_dead true e =
        ne_eqb 0 (at + 1) (λ (z : 0 ≡ at + 1). omega (arith, z))
        ∙ sym (ne_eqb (suc pc) (at + 1) (λ (s : suc pc ≡ at + 1).
        let same : pc ≡ at = omega (arith, s) in
        let bad : true ≡ false = sym e ∙ ap (λ n. nat_eq (dead n) 0) same ∙ h in
        (cc)))

pub among_counted : (dead marks writers : ℕ → ℕ) → ((a : ℕ) → marks a ≡ counted dead (writers a)) → (ps : List ℕ) (at : ℕ) → nat_eq (dead at) 0 ≡ false
    → among (map marks ps) (at + 1) ≡ among (map writers ps) (at + 1)
among_counted dead marks writers e [] at h = refl
among_counted dead marks writers e (p ∷ ps) at h =
    ap (λ n. nat_eq n (at + 1) || among (map marks ps) (at + 1)) (e p)
    ∙ ap (λ b. b || among (map marks ps) (at + 1)) (same_count dead (writers p) at h)
    ∙ ap (λ b. nat_eq (writers p) (at + 1) || b) (among_counted dead marks writers e ps at h)

pub counted_on : (dead marks writers : ℕ → ℕ) → ((a : ℕ) → marks a ≡ counted dead (writers a)) → (s : State) (a : ℕ)
    → marks_after dead s marks a
    ≡ counted dead (cond (among (bytes_in (stored (meaning (word_at s.arch)) s)) a) (cond (is_store (meaning (word_at s.arch))) (s.arch.pc + 1) 0) (writers a))
counted_on dead marks writers e s a = if_written (among (bytes_in (stored (meaning (word_at s.arch)) s)) a) (is_store (meaning (word_at s.arch)))
  where
    if_written : (b c : Bool) → cond b (cond c (counted dead (s.arch.pc + 1)) 0) (marks a) ≡ counted dead (cond b (cond c (s.arch.pc + 1) 0) (writers a))
    if_written true true = refl
    if_written true false = refl
    if_written false c = e a
