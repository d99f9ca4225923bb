-- What stands at each place of a round.
use Rattle.std.proofs.Common.{◌≡◌, ℕ, zero, suc, ◌+◌, ◌-◌, ◌<◌, ◌≤◌, inl, inr, List, [], ◌∷◌, ◌++◌, length, Some, refl, sym, ◌∙◌, subst, arith}
use Rattle.std.proofs.lemmas.List.{length-append}
use Rattle.std.proofs.lemmas.Bool.{cases_lt}
use Rattle.std.specs.List.{slice_get}
use Rattle.speculation.specs.declared.Event.TheVariants.{Slave, Commit}
use Rattle.speculation.specs.Rounds.{slaves_below, round}

get_front : {A : Type 0} (xs ys : List A) (i : ℕ) (x : A) → slice_get xs i ≡ Some x → slice_get (xs ++ ys) i ≡ Some x
get_front [] ys i x is = absurd cc
get_front (first ∷ xs) ys zero x is = is
get_front (first ∷ xs) ys (suc i) x is = get_front xs ys i x is

get_seam : {A : Type 0} (xs ys : List A) (y : A) → slice_get (xs ++ y ∷ ys) (length xs) ≡ Some y
get_seam [] ys y = refl
get_seam (first ∷ xs) ys y = get_seam xs ys y

length-slaves_below : (k : ℕ) → length (slaves_below k) ≡ k
length-slaves_below zero = refl
length-slaves_below (suc k) = length-append (slaves_below k) (Slave k ∷ []) ∙ omega (arith, length-slaves_below k)

slaves_below_at : (k number : ℕ) → number < k → slice_get (slaves_below k) number ≡ Some (Slave number)
slaves_below_at zero number lt = absurd (omega arith)
slaves_below_at (suc k) number lt = elim (cases_lt number k) [
  | inl below ↦ get_front (slaves_below k) (Slave k ∷ []) number (Slave number) (slaves_below_at k number below)
  | inr above ↦ let last : number ≡ k = omega arith in rw last (subst (λ (i : ℕ). slice_get (slaves_below k ++ Slave k ∷ []) i ≡ Some (Slave k)) (length-slaves_below k) (get_seam (slaves_below k) [] (Slave k)))
]

-- each event in turn
pub length_of_round : (slaves : ℕ) → length (round slaves) ≡ slaves + 7
length_of_round slaves = omega (arith, length-append (slaves_below slaves) (Commit ∷ []), length-slaves_below slaves)

pub slave_at : (slaves place : ℕ) → 6 ≤ place → place < slaves + 6 → slice_get (round slaves) place ≡ Some (Slave (place - 6))
slave_at slaves place le lt =
    let e : place ≡ suc (suc (suc (suc (suc (suc (place - 6)))))) = omega arith in
    subst (λ (i : ℕ). slice_get (round slaves) i ≡ Some (Slave (place - 6))) (sym e) (get_front (slaves_below slaves) (Commit ∷ []) (place - 6) (Slave (place - 6)) (slaves_below_at slaves (place - 6) (omega arith)))

pub commit_at : (slaves place : ℕ) → place ≡ slaves + 6 → slice_get (round slaves) place ≡ Some Commit
commit_at slaves place is =
    let e : place ≡ suc (suc (suc (suc (suc (suc (length (slaves_below slaves))))))) = omega (arith, length-slaves_below slaves) in
    subst (λ (i : ℕ). slice_get (round slaves) i ≡ Some Commit) (sym e) (get_seam (slaves_below slaves) [] Commit)
