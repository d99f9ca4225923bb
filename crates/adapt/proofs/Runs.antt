-- A run that goes on at a position went on before it.
use Rattle.std.proofs.Common.{◌≡◌, ℕ, zero, suc, ◌+◌, ◌-◌, ◌≤◌, Bool, true, false, cond, refl, ap, ◌∙◌, subst, arith}
use Rattle.std.proofs.lemmas.Bool.{both_ways}
use Rattle.cells.specs.Run.{State, is_over, printed}
use Rattle.rv_semantics.specs.Machine.{machine}
use Rattle.rv_semantics.specs.Calls.{call}
use Rattle.fitting.specs.Fails.{state_at}

module _ (start : State) where
  over_next : (k : ℕ) → is_over (state_at start k) ≡ true → is_over (state_at start (suc k)) ≡ true
  over_next k h =
      let s = state_at start k in
      ap (λ b. is_over (cond b s (cond (machine.stops s.arch) (call s) (record { arch = machine.move s.arch; env = printed s.env (machine.says s.arch) })))) h ∙ h

  over_later : (k d : ℕ) → is_over (state_at start k) ≡ true → is_over (state_at start (k + d)) ≡ true
  over_later k zero h = let e : k ≡ k + 0 = omega arith in subst (λ n. is_over (state_at start n) ≡ true) e h
  over_later k (suc d) h = let e : suc (k + d) ≡ k + suc d = omega arith in subst (λ n. is_over (state_at start n) ≡ true) e (over_next (k + d) (over_later k d h))

  pub going_before : (k n : ℕ) → k ≤ n → is_over (state_at start n) ≡ false → is_over (state_at start k) ≡ false
  going_before k n le going = not_over_if (is_over (state_at start k)) refl
    where
      not_over_if : (b : Bool) → is_over (state_at start k) ≡ b → b ≡ false
      not_over_if true e =
          absurd (both_ways (is_over (state_at start n)) going (let there : k + (n - k) ≡ n = omega arith in subst (λ m. is_over (state_at start m) ≡ true) there (over_later k (n - k) e)))
      not_over_if false e = refl
