-- The profile that was counted, and when it is too wide.
use Rattle.std.proofs.Common.{◌≡◌, ℕ, ◌<◌, ◌^◌, Bool, List, sym, ap, ◌∙◌, subst}
use Rattle.cells.specs.Run.{State, is_over, is_end}
use Rattle.memory.specs.declared.Memory.{Ghosts}
use Rattle.indexmap.specs.IndexMap.{IndexMap, values}
use Rattle.profile_data.specs.Profile.{Tally, Profiled, IsProfile}
use Rattle.profile_data.specs.Keyed.{profiled}
use Rattle.seq_machine.specs.declared.machine.Machine.{Machine}
use Rattle.fitting.specs.Fails.{state_at}
use Rattle.profile_laws.specs.Profiles.{steps, IsProfileOf, IsWide}
use Rattle.profile_laws.specs.Tally.{Kept, profile_of, kept}
use Rattle.profile_laws.proofs.Valid.{tally_is_valid}
use Rattle.profile_laws.proofs.Law.{tally_is_profile}
use Rattle.profile_laws.proofs.One.{profile_is_one}
use Rattle.profiler.specs.declared.tally.Tally.{Tally as CodeTally}
use Rattle.profiler.specs.Tally.{kept_of}
use Rattle.profiler.specs.Counted.{IsCounted}

-- profiles, part by part
same_profile : (a b : ℕ) (c d : Bool) (xs ys : List Tally) → a ≡ b → c ≡ d → xs ≡ ys
    → let p : Profiled = record { steps = a; ended = c; rows = xs } in let q : Profiled = record { steps = b; ended = d; rows = ys } in p ≡ q
same_profile a b c d xs ys e f g = λ i. record { steps = e i; ended = f i; rows = g i }

-- ---- the profile of what was counted

module _ {M S : Type 0} {d : Ghosts M} (at : M → ℕ → ℕ) (prints : ℕ → Bool) (start : State) (n : ℕ) (m : Machine M d) (t : CodeTally M) (counted : IsCounted at prints start n m t) (rows : IndexMap ℕ Tally S) (is : values rows ≡ (kept_of at t).rows) where
  abbrev pub made : Profiled
  made = profiled m.position (is_end m.end) rows

  same : (kept prints start n).rows ≡ values rows
  same = sym (is ∙ ap (λ (x : Kept). x.rows) counted.rows)

  made_is : profile_of prints start n ≡ made
  made_is = same_profile n m.position (is_over (state_at start n)) (is_end m.end) (kept prints start n).rows (values rows) (sym counted.position) (sym (ap is_over counted.state)) same

  narrow : IsWide (kept prints start n).rows → ⊥
  narrow h = counted.tallied.few (subst IsWide (ap (λ (x : Kept). x.rows) (sym counted.rows)) h)

  pub made_is_valid : n < 2 ^ 64 → IsProfile made
  made_is_valid small = subst IsProfile made_is (tally_is_valid prints start n small counted.pcs narrow)

  pub made_is_profile : IsProfileOf prints start n made
  made_is_profile = subst (IsProfileOf prints start n) made_is (tally_is_profile prints start n)

pub wide_profile : (prints : ℕ → Bool) (start begin : State) (budget : ℕ) → start ≡ begin → IsWide (kept prints start (steps start budget)).rows
    → (f : Profiled) → IsProfileOf prints begin (steps begin budget) f → IsWide f.rows
wide_profile prints start begin budget e wide f is =
    subst (λ (p : Profiled). IsWide p.rows) (profile_is_one prints begin (steps begin budget) (profile_of prints begin (steps begin budget)) f (tally_is_profile prints begin (steps begin budget)) is)
    (subst (λ s. IsWide (kept prints s (steps s budget)).rows) e wide)
