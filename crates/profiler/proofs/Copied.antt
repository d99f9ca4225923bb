-- Rows that are copied one after another.
use Rattle.std.proofs.Common.{◌≡◌, ℕ, zero, suc, false, cond, List, [], ◌∷◌, ◌++◌, map, take, slice_get, Some, is_some, refl, ap, ◌∙◌}
use Rattle.std.specs.Prelude.{nat_eq}
use Rattle.std.specs.List.{IsDistinct}
use Rattle.std.proofs.lemmas.Option.{same_Some}
use Rattle.profile_data.specs.Profile.{Tally, pc_of, row_at}
use Rattle.profiler.proofs.Entries.{later}

pub take_next : (ts : List Tally) (i : ℕ) (t : Tally) → slice_get ts i ≡ Some t → take (suc i) ts ≡ take i ts ++ t ∷ []
take_next [] i t at = absurd cc
take_next (u ∷ us) zero t at = ap (λ x. x ∷ []) (same_Some u t at)
take_next (u ∷ us) (suc i) t at = ap (λ xs. u ∷ xs) (take_next us i t at)

pub not_before : (ts : List Tally) (i : ℕ) (t : Tally) → IsDistinct nat_eq (map pc_of ts) → slice_get ts i ≡ Some t → is_some (row_at (take i ts) t.pc) ≡ false
unfolding IsDistinct
not_before [] i t distinct at = absurd cc
not_before (u ∷ us) zero t distinct at = refl
not_before (u ∷ us) (suc i) t distinct at =
    ap (λ b. is_some (cond b (Some u) (row_at (take i us) t.pc))) (later u.pc us i t distinct.0 at) ∙ not_before us i t distinct.1 at
