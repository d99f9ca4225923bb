-- What is owed.
use Rattle.std.proofs.Common.{◌≡◌, ℕ, Bool, true, false, cond, List, refl, ap, ◌∙◌}
use Rattle.profile_data.specs.Profile.{Tally}
use Rattle.profile_laws.specs.Tally.{Visit, Kept, places, bytes_in, read_back, visited, after_visit, rows_after}
use Rattle.profiler.proofs.ReadBack.{noted_again, kept_is}

-- a byte that was marked, or not
pub either : (b : Bool) (old new claim : ℕ) → (b ≡ true → new ≡ claim) → (b ≡ false → new ≡ old) → new ≡ cond b claim old
either true old new claim marked other = marked refl
either false old new claim marked other = other refl

-- where the bytes outside are as they were, those inside don't count
pub outside : (b : Bool) (old new claim : ℕ) → (b ≡ false → new ≡ old) → cond b claim new ≡ cond b claim old
outside true old new claim other = refl
outside false old new claim other = other refl

-- an entry of which the reads are noted already
pub entry_again : (v : Visit) (ts us : List Tally) (w x : ℕ → ℕ) → us ≡ read_back w (bytes_in v.loads) (read_back w (places 4 v.pc) ts) → x ≡ w
    → let k : Kept = record { rows = us; writers = x } in let l : Kept = record { rows = ts; writers = w } in after_visit v k ≡ after_visit v l
entry_again v ts us w x noted same =
    ap (λ y. after_visit v (record { rows = us; writers = y })) same
    ∙ kept_is _ _ _ _
    (ap (λ rows. rows_after v (record { rows = rows; writers = w })) noted ∙ ap (visited v) (noted_again w (places 4 v.pc) (bytes_in v.loads) ts))
    (λ a. refl)
