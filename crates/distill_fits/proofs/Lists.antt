-- Lists entry by entry.
use Rattle.std.proofs.Common.{◌≡◌, ℕ, ◌<◌, zero, suc, true, cond, List, [], ◌∷◌, map, refl, sym, ap, ◌∙◌, subst, arith, eqb, ◌||◌, Some}
use Rattle.std.specs.List.{slice_get}
use Rattle.std.proofs.lemmas.Bool.{cond-true, cond-false, eq-eqb, ne_eqb, or_right}
use Rattle.fitting.specs.Claims.{among}
use Rattle.distill_rules.proofs.Ascending.{IsBelow, Rises}
use Rattle.layout_rules.specs.Layout.{Laid, note_of}
use Rattle.distill_fits.proofs.Noted.{find_note}

some_same : {X : Type 0} (x y : X) → Some x ≡ Some y → x ≡ y
some_same x y e = cc

pub from_map : {X Y : Type 0} (f : X → Y) (xs : List X) (i : ℕ) (y : Y) → slice_get (map f xs) i ≡ Some y → (x : X) × (slice_get xs i ≡ Some x) × (f x ≡ y)
from_map f [] i y e = cc
from_map f (x ∷ xs) zero y e = (x, refl, some_same (f x) y e)
from_map f (x ∷ xs) (suc i) y e = from_map f xs i y e

pub to_map : {X Y : Type 0} (f : X → Y) (xs : List X) (i : ℕ) (x : X) → slice_get xs i ≡ Some x → slice_get (map f xs) i ≡ Some (f x)
to_map f [] i x e = cc
to_map f (x ∷ xs) zero y e = ap (λ z. Some (f z)) (some_same x y e)
to_map f (x ∷ xs) (suc i) y e = to_map f xs i y e

pub among_at : (qs : List ℕ) (i q : ℕ) → slice_get qs i ≡ Some q → among qs q ≡ true
among_at [] i q e = cc
among_at (n ∷ ns) zero q e = ap (λ b. b || among ns q) (eq-eqb n q (some_same n q e))
among_at (n ∷ ns) (suc i) q e = or_right (eqb n q) (among ns q) (among_at ns i q e)

-- ---- a rising list, by its places

below_at : (n : ℕ) (ms : List ℕ) (j q : ℕ) → IsBelow n ms → slice_get ms j ≡ Some q → n < q
below_at n [] j q h e = cc
below_at n (m ∷ ms) zero q h e = let same : m ≡ q = cc in let l = h.0 in omega (arith, l, same)
below_at n (m ∷ ms) (suc j) q h e = below_at n ms j q h.1 e

pub rises_at : (ns : List ℕ) → Rises ns → (i j p q : ℕ) → slice_get ns i ≡ Some p → slice_get ns j ≡ Some q → i < j → p < q
rises_at [] h i j p q e f l = cc
rises_at (n ∷ ns) h zero zero p q e f l = absurd (omega arith)
rises_at (n ∷ ns) h zero (suc j) p q e f l = let same : n ≡ p = cc in subst (λ k. k < q) same (below_at n ns j q h.0 f)
rises_at (n ∷ ns) h (suc i) zero p q e f l = absurd (omega arith)
rises_at (n ∷ ns) h (suc i) (suc j) p q e f l = rises_at ns h.1 i j p q e f (omega arith)

-- ---- the first of the notes with a pc

pub note_found : (ls : List Laid) (j : ℕ) (m : Laid) → slice_get ls j ≡ Some m
    → ((i : ℕ) (l : Laid) → i < j → slice_get ls i ≡ Some l → l.plot.pc ≡ m.plot.pc → ⊥) → find_note (map note_of ls) m.plot.pc ≡ Some (note_of m)
note_found [] j m e h = cc
note_found (l ∷ ls) zero m e h =
    let same = some_same l m e in
    subst (λ (x : Laid). cond (eqb x.plot.pc m.plot.pc) (Some (note_of x)) (find_note (map note_of ls) m.plot.pc) ≡ Some (note_of m)) (sym same)
    (cond-true (eqb m.plot.pc m.plot.pc) (Some (note_of m)) (find_note (map note_of ls) m.plot.pc) (eq-eqb m.plot.pc m.plot.pc refl))
note_found (l ∷ ls) (suc j) m e h =
    cond-false (eqb l.plot.pc m.plot.pc) (Some (note_of l)) (find_note (map note_of ls) m.plot.pc) (ne_eqb l.plot.pc m.plot.pc (h 0 l (omega arith) refl))
    ∙ note_found ls j m e (λ i k b f. h (suc i) k (omega (arith, b)) f)
