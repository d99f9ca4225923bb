-- The mark of a byte, by what is kept of its word and of itself.
use Rattle.std.proofs.Common.{◌≡◌, ℕ, cond, ap}
use Rattle.std.proofs.lemmas.Bool.{ne_eqb, eq-eqb}
use Rattle.access_trace.specs.Shadows.{apart, mark_of}

-- a word that is marked as a whole
pub as_whole : (whole own : ℕ) → (whole ≡ apart → ⊥) → mark_of whole own ≡ whole
as_whole whole own ne = ap (λ b. cond b own whole) (ne_eqb whole apart ne)

-- a word that is not
pub as_own : (whole own : ℕ) → whole ≡ apart → mark_of whole own ≡ own
as_own whole own e = ap (λ b. cond b own whole) (eq-eqb whole apart e)
