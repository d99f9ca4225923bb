-- Where one register at most was set, it is put back.
use Rattle.std.proofs.Common.{◌≡◌, ℕ, ◌<◌, Bool, true, false, cond, List, length, set, refl, sym, ap, ◌∙◌, eqb-true, get_or-set_same, get_or-set_other}
use Rattle.std.specs.Prelude.{nat_eq, slice_index}
use Rattle.std.proofs.lemmas.Bool.{eqb-false}
use mathlib.Core.Path.{fun_ext}
use Rattle.rv_semantics.specs.Values.{arch_of}

-- one element of a list set
pub set_at : (xs : List ℕ) (r v n : ℕ) → r < length xs → slice_index (set xs r v) n ≡ cond (nat_eq r n) v (slice_index xs n)
set_at xs r v n here = set_if_same (nat_eq r n) refl
  where
    set_if_same : (b : Bool) → nat_eq r n ≡ b → slice_index (set xs r v) n ≡ cond b v (slice_index xs n)
    set_if_same true e = ap (slice_index (set xs r v)) (sym (eqb-true r n e)) ∙ get_or-set_same xs r v 0 here
    set_if_same false e = let differ = eqb-false r n e in get_or-set_other xs r n v 0 (λ h. differ (sym h))

pub put_back : (old new back : List ℕ) (r : ℕ) → ((n : ℕ) → nat_eq r n ≡ false → slice_index new n ≡ slice_index old n)
    → ((n : ℕ) → slice_index back n ≡ cond (nat_eq r n) (slice_index old r) (slice_index new n)) → (pc : ℕ) (mem : ℕ → ℕ) → arch_of pc back mem ≡ arch_of pc old mem
put_back old new back r others set pc mem =
    let regs = fun_ext (λ n. set n ∙ back_if_same n (nat_eq r n) refl) in λ i. record { pc = pc; regs = regs i; mem = mem }
  where
    back_if_same : (n : ℕ) (b : Bool) → nat_eq r n ≡ b → cond b (slice_index old r) (slice_index new n) ≡ slice_index old n
    back_if_same n true e = ap (slice_index old) (eqb-true r n e)
    back_if_same n false e = others n e
